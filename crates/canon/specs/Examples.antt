-- The worked examples of reconciling and of spans: one table, and one statement for all of it.
use Rattle.std.specs.Prelude.{◌≡◌, ℕ, List, [], ◌∷◌, Some, None, codes, Option}
use Rattle.std.specs.List.{AllByRecursion}
use Rattle.records.specs.Content.{Version, Mutation, deletion, entry, live, cleared, content_of}
use Rattle.canon.specs.Spans.{run_of}

pub data Example : Type 0 where
  -- two records of section 1, plot 1, field 1, and the cell that they come to there
  reconciled : (first second : Mutation) → Option Version → Example
  -- two deletions, and the spans of what they come to
  spanned : (first second : Mutation) → List Mutation → Example

abbrev cell : Version → Mutation
cell c = entry 1 1 1 c

-- plots a to b of section 1 deleted
abbrev swept : ℕ → ℕ → ℕ → ℕ → Mutation
swept a b t d = deletion 1 a b (record { stamp = t; day = d })

abbrev deleted : ℕ → ℕ → Mutation
deleted t d = swept 1 1 t d

abbrev pub table : List Example
table =
    reconciled (cell (live 5 (codes "a"))) (cell (live 5 (codes "b"))) (Some (live 5 (codes "b")))
    ∷ reconciled (cell (live 5 (codes "a"))) (cell (live 5 (codes "ab"))) (Some (live 5 (codes "ab")))
    ∷ reconciled (cell (live 5 (codes "a"))) (cell (cleared 5 7)) (Some (cleared 5 7))
    ∷ reconciled (deleted 5 7) (cell (live 5 (codes "a"))) None
    ∷ reconciled (deleted 5 7) (cell (live 6 (codes "a"))) (Some (live 6 (codes "a")))
    ∷ spanned (swept 1 10 4 1) (swept 5 6 9 2) (swept 1 4 4 1 ∷ swept 5 6 9 2 ∷ swept 7 10 4 1 ∷ [])
    ∷ []

-- two records come to the cell, or to the spans, in either order
abbrev pub Holds : Example → Type 0
Holds (reconciled x y c) = ((content_of (x ∷ y ∷ [])).cell 1 1 1 ≡ c) × ((content_of (y ∷ x ∷ [])).cell 1 1 1 ≡ c)
Holds (spanned x y ss) = (run_of (content_of (x ∷ y ∷ [])) ≡ ss) × (run_of (content_of (y ∷ x ∷ [])) ≡ ss)

abbrev pub ExamplesHold : Type 0
ExamplesHold = AllByRecursion Holds table
