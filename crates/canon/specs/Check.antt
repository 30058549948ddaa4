-- What a check of a run in one pass looks at.
use Rattle.std.specs.Prelude.{◌≡◌, ◌<◌, ◌⊎◌}
use Rattle.records.specs.Content.{Mutation, deletion, entry}

-- x comes before y in a run, and can cover neither y nor what follows it
abbrev pub Passed : Mutation → Mutation → Type 0
Passed (deletion s a b t) (deletion s' a' b' t') = s < s'
Passed (deletion s a b t) (entry s' p f c) = (s < s') ⊎ ((s ≡ s') × (b < p))
Passed (entry s p f c) (deletion s' a' b' t') = s < s'
Passed (entry s p f c) (entry s' p' f' c') = s < s'
