-- The kinds of records.
use Rattle.std.specs.Prelude.{ℕ}
use Rattle.layout.specs.declared.kind.Kind.{Kind}
use Rattle.layout.specs.declared.kind.Kind.TheVariants.{Deletion, Live, Cleared}

-- the number of each
abbrev pub code_of : Kind → ℕ
code_of Deletion = 1
code_of Live = 2
code_of Cleared = 3
