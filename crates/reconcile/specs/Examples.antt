-- The worked examples of reconciling: one table, and one statement for all of it.
use Rattle.std.specs.Prelude.{◌≡◌, ℕ, List, [], ◌∷◌, Some, None, codes, Option}
use Rattle.std.specs.List.{AllByRecursion}
use Rattle.records.specs.Content.{Version, Mutation, deletion, entry, live, cleared, content_of}

pub data Example : Type 0 where
  -- two records of section 1, plot 1, field 1, and the cell that they come to there
  reconciled : (first second : Mutation) → Option Version → Example

abbrev cell : Version → Mutation
cell c = entry 1 1 1 c

abbrev deleted : ℕ → ℕ → Mutation
deleted t d = deletion 1 1 1 (record { stamp = t; day = d })

abbrev pub table : List Example
table =
    reconciled (cell (live 5 (codes "a"))) (cell (live 5 (codes "b"))) (Some (live 5 (codes "b")))
    ∷ reconciled (cell (live 5 (codes "a"))) (cell (live 5 (codes "ab"))) (Some (live 5 (codes "ab")))
    ∷ reconciled (cell (live 5 (codes "a"))) (cell (cleared 5 7)) (Some (cleared 5 7))
    ∷ reconciled (deleted 5 7) (cell (live 5 (codes "a"))) None
    ∷ reconciled (deleted 5 7) (cell (live 6 (codes "a"))) (Some (live 6 (codes "a")))
    ∷ []

-- two records come to the cell in either order
abbrev pub Holds : Example → Type 0
Holds (reconciled x y c) = ((content_of (x ∷ y ∷ [])).cell 1 1 1 ≡ c) × ((content_of (y ∷ x ∷ [])).cell 1 1 1 ≡ c)

abbrev pub ExamplesHold : Type 0
ExamplesHold = AllByRecursion Holds table
