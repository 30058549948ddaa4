-- The laws of runs.
use Rattle.std.specs.Prelude.{◌≡◌, ℕ, ◌≤◌, List}
use Rattle.records.specs.declared.tombstone.Tombstone.{Tombstone}
use Rattle.records.specs.Content.{Content, Mutation, content_of}
use Rattle.canon.specs.Run.{IsRun, RunOf, InRange}
use Rattle.canon.specs.Spans.{Span, Canonical, run_of}

pub record RunLaws : Type 0 where
  -- the run of a content of records is a run of that content, and its records are in range
  pub made : (ms : List Mutation) → InRange ms → RunOf (content_of ms) (run_of (content_of ms))
  pub ranged : (ms : List Mutation) → InRange ms → InRange (run_of (content_of ms))
  -- two runs of one content are equal
  pub one : (xs ys : List Mutation) → InRange xs → InRange ys → IsRun xs → IsRun ys → content_of xs ≡ content_of ys → xs ≡ ys
  -- a list is a run exactly where it is its content's spans and cells, in order of keys
  pub canonical : (xs : List Mutation) → InRange xs → IsRun xs → Canonical xs
  pub run : (xs : List Mutation) → Canonical xs → IsRun xs
  -- so a run is the run of its content
  pub again : (xs : List Mutation) → InRange xs → IsRun xs → run_of (content_of xs) ≡ xs
  -- two spans over one plot are one
  pub span : (c : Content) (s a b a' b' p : ℕ) (t : Tombstone) → Span c s a b t → Span c s a' b' t → a ≤ p → p ≤ b → a' ≤ p → p ≤ b' → (a ≡ a') × (b ≡ b')
