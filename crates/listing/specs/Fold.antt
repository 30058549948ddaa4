-- What a list of records comes to, taken together record by record.
use Rattle.std.specs.Prelude.{◌≡◌, ℕ, ◌==◌, Bool, cond, List, map, filter_map, Some, None, Option}
use Rattle.std.specs.List.{fold, list_any}
use Rattle.std.specs.Option.{IfSome}
use Rattle.records.specs.declared.place.Place.{Place}
use Rattle.records.specs.declared.cell.Cell.{Cell}
use Rattle.records.specs.declared.record.Record.{Record}
use Rattle.records.specs.Content.{Version, Content, Mutation, deletion, entry, greater, one, content_of}
use Rattle.records.specs.Meaning.{says, held_at}

abbrev pub content_in : List Record → Content
content_in rs = content_of (map says rs)

-- the cell, if any, stands at this place
abbrev pub At : Place → Option Cell → Type 0
At p cell = IfSome cell (λ c. c.place ≡ p)

-- the greatest cell written at a place, covered or not
abbrev pub written : List Mutation → Place → Option Version
written ms p = fold greater None (map (λ m. held_at (one m) p) ms)

abbrev pub section_of : Mutation → ℕ
section_of (deletion s a b t) = s
section_of (entry s p f c) = s

-- the plot of a section that a record writes a cell in
abbrev pub plot_in : ℕ → Mutation → Option ℕ
plot_in s (deletion s' a b t) = None
plot_in s (entry s' p f c) = cond (s' == s) (Some p) None

-- whether a number is among some
abbrev pub among : List ℕ → ℕ → Bool
among xs k = list_any (λ x. x == k) xs

-- whether a section has a record
abbrev pub in_section : List Mutation → ℕ → Bool
in_section ms s = among (map section_of ms) s

-- whether a plot has a cell written, covered or not
abbrev pub in_plot : List Mutation → ℕ → ℕ → Bool
in_plot ms s p = among (filter_map (plot_in s) ms) p
