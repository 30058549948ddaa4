-- Runs: of all lists of records with one content, the one in order.
use Rattle.std.specs.Prelude.{◌≡◌, ℕ, ◌+◌, Bool, true, not, ◌&&◌, ◌||◌, List, [], ◌∷◌, ◌==◌, nat_lt}
use Rattle.records.specs.declared.tombstone.Tombstone.{Tombstone}
use Rattle.records.specs.Order.{upto}
use Rattle.records.specs.Ranges.{in_range}
use Rattle.records.specs.Content.{Content, Mutation, deletion, entry, covered, one, content_of}

-- whether all pass a test
abbrev pub all : {A : Type 0} → (A → Bool) → List A → Bool
all test [] = true
all test (x ∷ xs) = test x && all test xs

-- The key of a record: its section, its class (0 a deletion, 1 a cell), its first plot, its field.
abbrev pub key_of : Mutation → List ℕ
key_of (deletion s a b t) = s ∷ 0 ∷ a ∷ 0 ∷ []
key_of (entry s p f c) = s ∷ 1 ∷ p ∷ f ∷ []

-- whether x has the lesser key
abbrev pub ascends : Mutation → Mutation → Bool
ascends x y = not (upto (key_of y) (key_of x))

abbrev pub same_tombstone : Tombstone → Tombstone → Bool
same_tombstone t u = t.stamp == u.stamp && t.day == u.day

-- whether x leaves y its place: two deletions of a section do not overlap, and where they touch they differ in stamp or
-- day; a deletion covers no cell
abbrev pub apart : Mutation → Mutation → Bool
apart (deletion s a b t) (deletion s' a' b' t') = not (s == s') || (nat_lt b a' && not (b + 1 == a' && same_tombstone t t'))
apart (deletion s a b t) (entry s' p f c) = not (covered ((one (deletion s a b t)).cover s' p) c.stamp)
apart (entry s p f c) y = true

-- whether x may come somewhere before y in a run
abbrev pub before : Mutation → Mutation → Bool
before x y = ascends x y && apart x y

-- A run: sections ascending, and within a section its deletions by first plot, then its cells by plot and field; no two
-- deletions of a section overlap, those that touch differ in stamp or day, and no cell is covered.
abbrev pub is_run : List Mutation → Bool
is_run [] = true
is_run (x ∷ xs) = all (before x) xs && is_run xs

abbrev pub IsRun : List Mutation → Type 0
IsRun xs = is_run xs ≡ true

-- a run of this content
pub record RunOf (content : Content) (xs : List Mutation) : Type 0 where
  pub run : IsRun xs
  pub same : content_of xs ≡ content

-- each record's section, plots and field are in range
abbrev pub InRange : List Mutation → Type 0
InRange xs = all in_range xs ≡ true
