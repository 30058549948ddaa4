-- The laws of `join` and of `content_of`.
use Rattle.std.proofs.Common.{◌≡◌, ℕ, Bool, true, false, cond, ◌&&◌, eqb, ◌⊎◌, List, [], ◌∷◌, ◌++◌, Some, None, Option, sym, refl, ap, ◌∙◌, inl, inr, arith}
use mathlib.Core.List.Memᴰ
use mathlib.Core.List.{Memᴰ}
use Rattle.records.specs.declared.tombstone.Tombstone.{Tombstone}
use Rattle.records.specs.Content.{Version, Content, Mutation, later, greater, uncovered, join, join_all, empty, Settled, one, content_of, deletion, entry}
use Rattle.reconcile.specs.Laws.{◌⊑◌, SameMutations, JoinLaws, OrderLaws, ContentLaws}
use Rattle.reconcile.proofs.Places.{later_none, later_same, later_comm, later_assoc, greater_none, greater_same, greater_comm, greater_assoc, floor_later, absorb, absorb_right, through_twice, let_through}

-- two contents that agree at every place
pub same_content : (a b : Content) → ((s p : ℕ) → a.cover s p ≡ b.cover s p) → ((s p f : ℕ) → a.cell s p f ≡ b.cell s p f) → a ≡ b
same_content a b h k = λ i. record { cover = λ s p. h s p i; cell = λ s p f. k s p f i }

pub join_comm : (a b : Content) → join a b ≡ join b a
join_comm a b =
    same_content (join a b) (join b a)
    (λ s p. later_comm (a.cover s p) (b.cover s p))
    (λ s p f i. uncovered (later_comm (a.cover s p) (b.cover s p) i) (greater_comm (a.cell s p f) (b.cell s p f) i))

cell_assoc : (a b c : Option Tombstone) (x y z : Option Version) → uncovered (later (later a b) c) (greater (uncovered (later a b) (greater x y)) z) ≡ uncovered (later a (later b c)) (greater x (uncovered (later b c) (greater y z)))
cell_assoc a b c x y z =
    absorb (later a b) (later (later a b) c) (greater x y) z (omega (arith, floor_later (later a b) c))
    ∙ (λ i. uncovered (later_assoc a b c i) (greater_assoc x y z i))
    ∙ sym (absorb_right (later b c) (later a (later b c)) x (greater y z) (omega (arith, floor_later a (later b c))))

pub join_assoc : (a b c : Content) → join (join a b) c ≡ join a (join b c)
join_assoc a b c =
    same_content (join (join a b) c) (join a (join b c))
    (λ s p. later_assoc (a.cover s p) (b.cover s p) (c.cover s p))
    (λ s p f. cell_assoc (a.cover s p) (b.cover s p) (c.cover s p) (a.cell s p f) (b.cell s p f) (c.cell s p f))

pub join_settled : (a b : Content) → Settled (join a b)
join_settled a b s p f = through_twice (later (a.cover s p) (b.cover s p)) (greater (a.cell s p f) (b.cell s p f))

pub join_same : (a : Content) → Settled a → join a a ≡ a
join_same a h =
    same_content (join a a) a
    (λ s p. later_same (a.cover s p))
    (λ s p f. (λ i. uncovered (later_same (a.cover s p) i) (greater_same (a.cell s p f) i)) ∙ h s p f)

pub join-empty : (a : Content) → Settled a → join a empty ≡ a
join-empty a h =
    same_content (join a empty) a
    (λ s p. later_none (a.cover s p))
    (λ s p f. (λ i. uncovered (later_none (a.cover s p) i) (greater_none (a.cell s p f) i)) ∙ h s p f)

pub empty-join : (a : Content) → Settled a → join empty a ≡ a
empty-join a h = join_comm empty a ∙ join-empty a h

pub empty_settled : Settled empty
empty_settled s p f = refl

pub join_all_settled : (xs : List Content) → Settled (join_all xs)
join_all_settled [] = empty_settled
join_all_settled (x ∷ xs) = join_settled x (join_all xs)

pub one_settled : (r : Mutation) → Settled (one r)
one_settled (deletion s' a b t) s p f = refl
one_settled (entry s' p' f' c) s p f = go (eqb s s' && (eqb p p' && eqb f f'))
  where
    go : (b : Bool) → uncovered None (cond b (Some c) None) ≡ cond b (Some c) None
    go true = let_through None c (omega arith)
    go false = refl

pub content_of_settled : (rs : List Mutation) → Settled (content_of rs)
content_of_settled [] = empty_settled
content_of_settled (r ∷ rs) = join_settled (one r) (content_of rs)

-- two swapped in front of a third
pub join_swap : (a b c : Content) → join a (join b c) ≡ join b (join a c)
join_swap a b c = sym (join_assoc a b c) ∙ ap (λ x. join x c) (join_comm a b) ∙ join_assoc b a c

-- ---- the order

pub below_refl : (x : Content) → Settled x → x ⊑ x
below_refl = join_same

pub below_trans : (x y z : Content) → x ⊑ y → y ⊑ z → x ⊑ z
below_trans x y z h k = ap (λ w. join w x) (sym k) ∙ join_assoc z y x ∙ ap (join z) h ∙ k

pub below_anti : (x y : Content) → x ⊑ y → y ⊑ x → x ≡ y
below_anti x y h k = sym k ∙ join_comm x y ∙ h

pub join_upper : (x y : Content) → Settled x → x ⊑ join x y
join_upper x y h = join_comm (join x y) x ∙ sym (join_assoc x x y) ∙ ap (λ w. join w y) (join_same x h)

pub join_upper_right : (x y : Content) → Settled y → y ⊑ join x y
join_upper_right x y h = join_assoc x y y ∙ ap (join x) (join_same y h)

pub join_least : (x y z : Content) → x ⊑ z → y ⊑ z → join x y ⊑ z
join_least x y z h k = sym (join_assoc z x y) ∙ ap (λ w. join w y) h ∙ k

-- ---- records

pub content_of-append : (xs ys : List Mutation) → content_of (xs ++ ys) ≡ join (content_of xs) (content_of ys)
content_of-append [] ys = sym (empty-join (content_of ys) (content_of_settled ys))
content_of-append (x ∷ xs) ys = ap (join (one x)) (content_of-append xs ys) ∙ sym (join_assoc (one x) (content_of xs) (content_of ys))

pub member_below : (r : Mutation) (rs : List Mutation) → Memᴰ r rs → one r ⊑ content_of rs
member_below r [] h = elim h [ ]
member_below r (x ∷ xs) h = go (Memᴰ.cases_cons h) (member_below r xs)
  where
    go : (r ≡ x) ⊎ Memᴰ r xs → (Memᴰ r xs → one r ⊑ content_of xs) → one r ⊑ content_of (x ∷ xs)
    go (inl e) ih = ap (λ y. join (content_of (x ∷ xs)) (one y)) e ∙ join_upper (one x) (content_of xs) (one_settled x)
    go (inr m) ih = join_assoc (one x) (content_of xs) (one r) ∙ ap (join (one x)) (ih m)

pub members_below : (xs ys : List Mutation) → ((r : Mutation) → Memᴰ r xs → Memᴰ r ys) → content_of xs ⊑ content_of ys
members_below [] ys h = join-empty (content_of ys) (content_of_settled ys)
members_below (x ∷ xs) ys h =
    join_least (one x) (content_of xs) (content_of ys)
    (member_below x ys (h x (Memᴰ.head refl)))
    (members_below xs ys (λ r m. h r (Memᴰ.tail m)))

pub same_records : (xs ys : List Mutation) → SameMutations xs ys → content_of xs ≡ content_of ys
same_records xs ys h = below_anti (content_of xs) (content_of ys) (members_below xs ys h.0) (members_below ys xs h.1)

-- ---- together

pub join_laws : JoinLaws
join_laws = record { assoc = join_assoc; comm = join_comm; same = join_same; neutral = join-empty; settles = join_settled }

pub order_laws : OrderLaws
order_laws = record { itself = below_refl; trans = below_trans; anti = below_anti; left = join_upper; right = join_upper_right; least = join_least }

pub content_laws : ContentLaws
content_laws = record { settled = content_of_settled; append = content_of-append; alike = same_records; holds = member_below }
