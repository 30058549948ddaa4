-- The laws of reconciling. What lies above this crate uses these, never the text of an order.
use Rattle.std.specs.Prelude.{◌≡◌, ℕ, ◌<◌, ◌⊎◌, List, ◌++◌, Some, None, Option}
use mathlib.Core.List.{Memᴰ}
use Rattle.records.specs.Content.{Content, Mutation, join, empty, one, content_of, Settled}

-- y lacks nothing of x, and x has nothing beyond y: joining x to y alters nothing
abbrev pub ◌⊑◌ : Content → Content → Type 0
x ⊑ y = join y x ≡ y

infix 50 ◌⊑◌
-- the same records, in whatever order and however often
abbrev pub SameMutations : List Mutation → List Mutation → Type 0
SameMutations xs ys = ((r : Mutation) → Memᴰ r xs → Memᴰ r ys) × ((r : Mutation) → Memᴰ r ys → Memᴰ r xs)

-- `best` takes the greatest of two in a total order in which a greater stamp is greater, and none is below all
pub record MaximumLaws {A : Type 0} (stamp : A → ℕ) (best : Option A → Option A → Option A) : Type 0 where
  pub assoc : (x y z : Option A) → best (best x y) z ≡ best x (best y z)
  pub comm : (x y : Option A) → best x y ≡ best y x
  pub same : (x : Option A) → best x x ≡ x
  pub none : (x : Option A) → best x None ≡ x
  pub either : (x y : Option A) → (best x y ≡ x) ⊎ (best x y ≡ y)
  pub newer : (x y : A) → stamp y < stamp x → best (Some x) (Some y) ≡ Some x

pub record JoinLaws : Type 0 where
  pub assoc : (a b c : Content) → join (join a b) c ≡ join a (join b c)
  pub comm : (a b : Content) → join a b ≡ join b a
  pub same : (a : Content) → Settled a → join a a ≡ a
  pub neutral : (a : Content) → Settled a → join a empty ≡ a
  pub settles : (a b : Content) → Settled (join a b)

-- on settled contents "lacks nothing of" is a partial order, with `join` the least upper bound
pub record OrderLaws : Type 0 where
  pub itself : (x : Content) → Settled x → x ⊑ x
  pub trans : (x y z : Content) → x ⊑ y → y ⊑ z → x ⊑ z
  pub anti : (x y : Content) → x ⊑ y → y ⊑ x → x ≡ y
  pub left : (x y : Content) → Settled x → x ⊑ join x y
  pub right : (x y : Content) → Settled y → y ⊑ join x y
  pub least : (x y z : Content) → x ⊑ z → y ⊑ z → join x y ⊑ z

-- the content of a list of records does not depend on their order, nor on how often one stands there
pub record ContentLaws : Type 0 where
  pub settled : (xs : List Mutation) → Settled (content_of xs)
  pub append : (xs ys : List Mutation) → content_of (xs ++ ys) ≡ join (content_of xs) (content_of ys)
  pub alike : (xs ys : List Mutation) → SameMutations xs ys → content_of xs ≡ content_of ys
  pub holds : (r : Mutation) (xs : List Mutation) → Memᴰ r xs → one r ⊑ content_of xs
