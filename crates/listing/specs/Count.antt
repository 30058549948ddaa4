-- How many plots of a section are listed and free, and which sections there are.
use Rattle.std.specs.Prelude.{◌≡◌, ℕ, ◌<◌, ◌≤◌, Bool, List, [], ◌∷◌, ◌++◌, map, length, Option, MatchOption}
use Rattle.records.specs.Content.{Content, Mutation, content_of}
use Rattle.records.specs.Listed.{passing, listed, free}
use Rattle.listing.specs.declared.section.PlotCount.{PlotCount}
use Rattle.listing.specs.declared.section.SectionCount.{SectionCount}
use Rattle.listing.specs.Fold.{in_section}

-- how many plots of a section are listed, and how many free
abbrev pub plots_of : Content → ℕ → PlotCount
plots_of c s = record { listed = length (passing (listed c s) 999999); free = length (passing (free c s) 999999) }

abbrev pub count_of : Content → ℕ → SectionCount
count_of c s = record { section = s; plots = plots_of c s }

-- the counts of each section with a record, ascending
abbrev pub counts_of : List Mutation → List SectionCount
counts_of ms = map (count_of (content_of ms)) (passing (in_section ms) 9999)

-- r is the first number above `after`, up to `last`, that passes a test; none does if r is none
abbrev pub IsNext : (ℕ → Bool) → ℕ → ℕ → Option ℕ → Type 0
IsNext test after last r =
    MatchOption r (after ≤ last → passing test last ≡ passing test after) (λ q. (after < q) × (q ≤ last) × (passing test q ≡ passing test after ++ (q ∷ [])))
