-- Records put together one by one, and the content that they come to.
use Rattle.std.proofs.Common.{◌≡◌, ℕ, Bool, true, false, cond, ◌&&◌, eqb, List, [], ◌∷◌, map, filter_map, Some, None, Option, unwrap_or, sym, refl, ap, ◌∙◌, arith}
use denote.Param.Members.{Mut}
use Rattle.std.specs.Fn.{Called}
use Rattle.std.specs.Iterator.{Drains, ReducesItems}
use Rattle.std.specs.List.{fold, reduce, cons_option}
use Rattle.std.specs.Option.{option_map}
use Rattle.std.proofs.lemmas.Bool.Decides.{nat_tests}
use Rattle.std.proofs.lemmas.Fn.{fold_same}
use Rattle.std.proofs.lemmas.Iterator.{YieldsList, items_from_drains}
use Rattle.std.proofs.lemmas.List.{map-id}
use Rattle.std.proofs.lemmas.List.Sums.{fold-append}
use Rattle.records.specs.declared.place.Place.{Place}
use Rattle.records.specs.declared.record.Record.{Record}
use Rattle.records.specs.declared.record.Record.TheVariants as which
use Rattle.records.specs.declared.cell.Cell.{Cell}
use Rattle.records.specs.declared.tombstone.Tombstone.{Tombstone}
use Rattle.records.specs.Order.{upto}
use Rattle.records.specs.Content.{Version, Mutation, later, greater, uncovered, one, content_of, version_key}
use Rattle.records.specs.Meaning.{says, version_of, greater_of, cover_on, held_at}
use Rattle.records.proofs.Ext.{place_ext}
use Rattle.records.proofs.Says.{cell_known}
use Rattle.reconcile.proofs.Places.{later_none, later_assoc, greater_none, greater_assoc, floor_later, absorb_right}
use Rattle.listing.specs.Fold.{content_in, At, written}

-- the latest of a cover and what the records leave
pub cover_from : (s p : ℕ) (t : Option Tombstone) (rs : List Record) → fold (λ u r. later u ((one (says r)).cover s p)) t rs ≡ later t ((content_in rs).cover s p)
cover_from s p t [] = sym (later_none t)
cover_from s p t (r ∷ rs) =
    cover_from s p (later t ((one (says r)).cover s p)) rs ∙ later_assoc t ((one (says r)).cover s p) ((content_in rs).cover s p)

-- ---- the greatest of the cells at a place

-- the greater of two cells
abbrev pub pick : Cell → Cell → Cell
pick a b = unwrap_or (greater_of (Some a) (Some b)) a

pub pick_is : (a b r : Cell) → Some r ≡ greater_of (Some a) (Some b) → r ≡ pick a b
pick_is a b r e = ap (λ o. unwrap_or o a) e

pick_version : (a b : Cell) → Some (version_of (pick a b)) ≡ greater (Some (version_of a)) (Some (version_of b))
pick_version a b = go (upto (version_key (version_of a)) (version_key (version_of b)))
  where
    go : (t : Bool) → Some (version_of (unwrap_or (cond t (Some b) (Some a)) a)) ≡ cond t (Some (version_of b)) (Some (version_of a))
    go true = refl
    go false = refl

pick_at : (p : Place) (a b : Cell) → a.place ≡ p → b.place ≡ p → (pick a b).place ≡ p
pick_at p a b e h = go (upto (version_key (version_of a)) (version_key (version_of b)))
  where
    go : (t : Bool) → (unwrap_or (cond t (Some b) (Some a)) a).place ≡ p
    go true = h
    go false = e

-- whether a cell stands at a place
abbrev here : Place → Cell → Bool
here p c = eqb p.plot.section c.place.plot.section && (eqb p.plot.number c.place.plot.number && eqb p.field c.place.field)

here_at : (p : Place) (c : Cell) → here p c ≡ true → c.place ≡ p
here_at p c e = place_ext c.place p (grind (arith, nat_tests)) (grind (arith, nat_tests)) (grind (arith, nat_tests))

-- the cell that a record writes at a place
abbrev pub cell_in : Place → Record → Option Cell
cell_in p (which.Deletion d) = None
cell_in p (which.Cell c) = cond (here p c) (Some c) None

pub cell_told : (p : Place) (x : Record) (c : Option Cell) → option_map version_of c ≡ held_at (one (says x)) p → At p c → c ≡ cell_in p x
cell_told p (which.Deletion d) None e h = refl
cell_told p (which.Deletion d) (Some c) e h = cc
cell_told p (which.Cell x) c e h = go (here p x) refl c e h
  where
    go : (b : Bool) → here p x ≡ b → (c : Option Cell) → option_map version_of c ≡ cond b (Some (version_of x)) None → At p c → c ≡ cond b (Some x) None
    go true t None e h = cc
    go true t (Some c) e h = let v : version_of c ≡ version_of x = cc in ap Some (cell_known c x (h ∙ sym (here_at p x t)) v)
    go false t None e h = refl
    go false t (Some c) e h = cc

module _ (p : Place) where
  -- c is the greatest of a version and those that the records write, and stands at the place
  abbrev pub Greatest : Option Version → List Record → Option Cell → Type 0
  Greatest x rs c = (option_map version_of c ≡ fold greater x (map (λ m. held_at (one m) p) (map says rs))) × At p c

  picked : (x : Cell) (rs : List Record) → x.place ≡ p → Greatest (Some (version_of x)) rs (Some (fold pick x (filter_map (cell_in p) rs)))
  picked x [] e = (refl, e)
  picked x (which.Deletion d ∷ rs) e = picked x rs e
  picked x (which.Cell c ∷ rs) e = go (here p c) refl (λ y h. picked y rs h)
    where
      go : (b : Bool) → here p c ≡ b → ((y : Cell) → y.place ≡ p → Greatest (Some (version_of y)) rs (Some (fold pick y (filter_map (cell_in p) rs)))) →
          Greatest (greater (Some (version_of x)) (cond b (Some (version_of c)) None)) rs (Some (fold pick x (cons_option (cond b (Some c) None) (filter_map (cell_in p) rs))))
      go true t ih =
          let h = ih (pick x c) (pick_at p x c e (here_at p c t)) in
          (h.0 ∙ ap (λ v. fold greater v (map (λ m. held_at (one m) p) (map says rs))) (pick_version x c), h.1)
      go false t ih = ih x e

  pub greatest_is : (rs : List Record) → Greatest None rs (reduce pick (filter_map (cell_in p) rs))
  greatest_is [] = (refl, tt)
  greatest_is (which.Deletion d ∷ rs) = greatest_is rs
  greatest_is (which.Cell c ∷ rs) = go (here p c) refl (greatest_is rs)
    where
      go : (b : Bool) → here p c ≡ b → Greatest None rs (reduce pick (filter_map (cell_in p) rs)) →
          Greatest (cond b (Some (version_of c)) None) rs (reduce pick (cons_option (cond b (Some c) None) (filter_map (cell_in p) rs)))
      go true t ih = picked c rs (here_at p c t)
      go false t ih = ih

drained : {S A : Type 0} {steps : S → Option A → S → Type 0} {s : S} {all : List A} (xs : List A) → Drains steps s xs → YieldsList steps (λ x. x) s all → xs ≡ all
drained xs d y = sym (map-id xs) ∙ items_from_drains xs (d.1.0, d.1.1, λ _. (d.0, d.1.2)) y

-- what `reduce` gives, by a closure that computes h
pub reduce_told : {S A F : Type 0} {steps : S → Option A → S → Type 0} {s : S} {all : List A} (g : Mut F (A × (A × Unit {0})) A) (h : A → A → A) {f : F} (r : Option A) → ReducesItems steps g s f r → YieldsList steps (λ x. x) s all →
    ((a x b : A) (q : F) → Called g f (a, (x, tt)) b q → (q ≡ f) × (b ≡ h a x)) → r ≡ reduce h all
reduce_told g h None ran y k = ap (reduce h) (drained [] ran y)
reduce_told g h {f} (Some b) ran y k =
    ap Some (fold_same g (λ xs c. c ≡ fold h ran.0 xs) f (λ xs a x c q e t. ((k a x c q t).1 ∙ ap (λ z. h z x) e ∙ sym (fold-append h ran.0 xs (x ∷ [])), (k a x c q t).0)) ran.1 ran.0 b ran.2 refl ran.4)
    ∙ ap (reduce h) (drained (ran.0 ∷ ran.1) ran.3 y)

written_from : (x : Option Version) (ys : List (Option Version)) → fold greater x ys ≡ greater x (fold greater None ys)
written_from x [] = sym (greater_none x)
written_from x (y ∷ ys) = written_from (greater x y) ys ∙ greater_assoc x y (fold greater None ys) ∙ ap (greater x) (sym (written_from y ys))

-- covering at the end is covering at each step
pub cell_is : (ms : List Mutation) (p : Place) → held_at (content_of ms) p ≡ uncovered (cover_on (content_of ms) p.plot) (written ms p)
cell_is [] p = refl
cell_is (m ∷ ms) p =
    let c = cover_on (content_of ms) p.plot in
    let d = cover_on (one m) p.plot in
    let x = held_at (one m) p in
    ap (λ y. uncovered (later d c) (greater x y)) (cell_is ms p)
    ∙ absorb_right c (later d c) x (written ms p) (omega (arith, floor_later d c))
    ∙ ap (uncovered (later d c)) (sym (written_from x (map (λ n. held_at (one n) p) ms)))
