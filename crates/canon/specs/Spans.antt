-- The spans of a content, and the run of a content as a function.
use Rattle.std.specs.Prelude.{◌≡◌, ℕ, zero, suc, ◌+◌, ◌-◌, ◌*◌, ◌/◌, ◌%◌, ◌≤◌, Bool, true, false, cond, ◌&&◌, List, [], ◌∷◌, ◌++◌, Some, None, Option, ◌≢◌}
use mathlib.Core.List.{Memᴰ}
use Rattle.std.specs.List.{range_with_len, flat_map}
use Rattle.records.specs.declared.tombstone.Tombstone.{Tombstone}
use Rattle.records.specs.Content.{Version, Content, Mutation, deletion, entry, content_of, Settled}
use Rattle.canon.specs.Run.{all, ascends, same_tombstone}

-- A span: the plots first to last of section s are a longest stretch of neighbouring plots with the cover t.
pub record Span (c : Content) (s first last : ℕ) (t : Tombstone) : Type 0 where
  pub ordered : first ≤ last
  pub same : (p : ℕ) → first ≤ p → p ≤ last → c.cover s p ≡ Some t
  pub starts : (p : ℕ) → p + 1 ≡ first → c.cover s p ≢ Some t
  pub ends : c.cover s (last + 1) ≡ Some t → ⊥

-- the records of a content: its spans as deletions, and its cells
abbrev pub Held : Content → Mutation → Type 0
Held c (deletion s a b t) = Span c s a b t
Held c (entry s p f v) = c.cell s p f ≡ Some v

abbrev pub ascending : List Mutation → Bool
ascending [] = true
ascending (x ∷ xs) = all (ascends x) xs && ascending xs

-- in order of keys, just the spans and the cells of what the records come to
pub record Canonical (xs : List Mutation) : Type 0 where
  pub in_order : ascending xs ≡ true
  pub held : (r : Mutation) → Memᴰ r xs → Held (content_of xs) r
  pub whole : (r : Mutation) → Held (content_of xs) r → Memᴰ r xs

-- ---- as a function

abbrev pub same_cover : Option Tombstone → Option Tombstone → Bool
same_cover None None = true
same_cover None (Some u) = false
same_cover (Some t) None = false
same_cover (Some t) (Some u) = same_tombstone t u

-- the last plot, at most n plots on, of the stretch of equal cover from plot p
abbrev pub stretch : (ℕ → Option Tombstone) → ℕ → ℕ → ℕ
stretch cover p zero = p
stretch cover p (suc n) = cond (same_cover (cover p) (cover (p + 1))) (stretch cover (p + 1) n) p

abbrev pub span_of : ℕ → ℕ → ℕ → Option Tombstone → List Mutation
span_of s first last None = []
span_of s first last (Some t) = deletion s first last t ∷ []

abbrev pub cell_of : ℕ → ℕ → ℕ → Option Version → List Mutation
cell_of s p f None = []
cell_of s p f (Some v) = entry s p f v ∷ []

-- places of a section go by plot, then by field
abbrev pub spot : ℕ → ℕ → ℕ
spot p f = 256 * p + f

module _ (c : Content) where
  -- the span that begins at plot p, if one does
  unfoldable pub span_at : ℕ → ℕ → List Mutation
  span_at s p = cond (same_cover (c.cover s (p - 1)) (c.cover s p)) [] (span_of s p (stretch (c.cover s) p (999999 - p)) (c.cover s p))

  -- the cell at the k-th place, if there is one
  unfoldable pub cell_at : ℕ → ℕ → List Mutation
  cell_at s k = cell_of s (k / 256) (k % 256) (c.cell s (k / 256) (k % 256))

  -- the spans that begin at plot p or after it
  unfoldable pub spans_from : ℕ → ℕ → List Mutation
  spans_from s p = flat_map (span_at s) (range_with_len p (1000000 - p))

  -- the cells at the k-th place and after it
  unfoldable pub cells_from : ℕ → ℕ → List Mutation
  cells_from s k = flat_map (cell_at s) (range_with_len k (256000000 - k))

  -- a section: its spans, then its cells
  abbrev pub section_run : ℕ → List Mutation
  section_run s = spans_from s 1 ++ cells_from s 0

  -- section s and those after it
  unfoldable pub run_from : ℕ → List Mutation
  run_from s = flat_map section_run (range_with_len s (10000 - s))

  -- the run
  abbrev pub run_of : List Mutation
  run_of = run_from 1

-- Sound: no cell is covered, and nothing lies out of range. The content of records in range is sound.
pub record Sound (c : Content) : Type 0 where
  pub settled : Settled c
  pub plots : (s p : ℕ) → ((1 ≤ p) × (p ≤ 999999) → ⊥) → c.cover s p ≡ None
  pub sections : (s p : ℕ) → ((1 ≤ s) × (s ≤ 9999) → ⊥) → c.cover s p ≡ None
  pub cells : (s p f : ℕ) → ((1 ≤ s) × (s ≤ 9999) × (1 ≤ p) × (p ≤ 999999) × (1 ≤ f) × (f ≤ 32) → ⊥) → c.cell s p f ≡ None
