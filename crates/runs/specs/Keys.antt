-- Keys as the code holds them.
use Rattle.std.specs.Prelude.{ℕ, List, [], ◌∷◌}
use Rattle.runs.specs.declared.key.Class.{Class}
use Rattle.runs.specs.declared.key.Class.TheVariants.{Deletion, Cell}
use Rattle.runs.specs.declared.key.Key.{Key}

abbrev pub class_of : Class → ℕ
class_of Deletion = 0
class_of Cell = 1

abbrev pub numbers_of : Key → List ℕ
numbers_of k = k.section ∷ class_of k.class ∷ k.first ∷ k.field ∷ []
