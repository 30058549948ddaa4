-- What a register holds: the cover of each plot and the cell of each place.
use Rattle.std.specs.Prelude.{◌≡◌, ℕ, Bool, false, cond, ◌&&◌, List, [], ◌∷◌, Some, None, Option, ◌==◌, nat_le}
use Rattle.records.specs.declared.tombstone.Tombstone.{Tombstone}
use Rattle.records.specs.Order.{greatest}

-- A version of a cell, the place left out. Live: rank 0, day 0 and its value. Cleared: rank 1, its day and no value.
pub record Version : Type 0 where
  pub stamp : ℕ
  pub rank : ℕ
  pub day : ℕ
  pub value : List ℕ

abbrev pub live : ℕ → List ℕ → Version
live t v = record { stamp = t; rank = 0; day = 0; value = v }

abbrev pub cleared : ℕ → ℕ → Version
cleared t d = record { stamp = t; rank = 1; day = d; value = [] }

-- Of two deletions the later has the greater stamp, at equal stamps the greater day.
unfoldable pub tombstone_key : Tombstone → List ℕ
tombstone_key t = t.stamp ∷ t.day ∷ []

-- Of two cells at one place the greater has the greater stamp. At equal stamps cleared beats live; then the greater
-- day wins between cleared cells, the greater value between live ones. This text is for this crate alone: what lies
-- above uses the laws in Laws.antt.
unfoldable pub version_key : Version → List ℕ
version_key c = c.stamp ∷ c.rank ∷ c.day ∷ c.value

abbrev pub later : Option Tombstone → Option Tombstone → Option Tombstone
later a b = greatest tombstone_key a b

abbrev pub greater : Option Version → Option Version → Option Version
greater x y = greatest version_key x y

-- whether a cover covers a cell with this stamp: one at or below its own
abbrev pub covered : Option Tombstone → ℕ → Bool
covered None n = false
covered (Some t) n = nat_le n t.stamp

-- the cell, or none where the cover covers it
abbrev pub uncovered : Option Tombstone → Option Version → Option Version
uncovered t None = None
uncovered t (Some c) = cond (covered t c.stamp) None (Some c)

-- A content gives each plot (by section and plot) its cover, the latest deletion over it, and each place (by section,
-- plot and field) its greatest cell, or none where that cell is covered.
pub record Content : Type 0 where
  pub cover : ℕ → ℕ → Option Tombstone
  pub cell : ℕ → ℕ → ℕ → Option Version

abbrev pub empty : Content
empty = record { cover = λ s p. None; cell = λ s p f. None }

-- the later cover, and the greater cell unless the joined cover covers it
abbrev pub join : Content → Content → Content
join a b = record {
  cover = λ s p. later (a.cover s p) (b.cover s p);
  cell = λ s p f. uncovered (later (a.cover s p) (b.cover s p)) (greater (a.cell s p f) (b.cell s p f));
}

-- no cell is covered
abbrev pub Settled : Content → Type 0
Settled a = (s p f : ℕ) → uncovered (a.cover s p) (a.cell s p f) ≡ a.cell s p f

-- What a record says, as plain numbers: a deletion of a section's plots from the first to the last, or a cell at a
-- section, plot and field.
pub data Mutation : Type 0 where
  deletion : (section first last : ℕ) → Tombstone → Mutation
  entry : (section plot field : ℕ) → Version → Mutation

abbrev pub stamp_of : Mutation → ℕ
stamp_of (deletion s a b t) = t.stamp
stamp_of (entry s p f c) = c.stamp

-- the content of one record
abbrev pub one : Mutation → Content
one (deletion s' a b t) = record {
  cover = λ s p. cond (s == s' && (nat_le a p && nat_le p b)) (Some t) None;
  cell = λ s p f. None;
}
one (entry s' p' f' c) = record {
  cover = λ s p. None;
  cell = λ s p f. cond (s == s' && (p == p' && f == f')) (Some c) None;
}

-- the content of several records, of none the empty one
abbrev pub content_of : List Mutation → Content
content_of [] = empty
content_of (r ∷ rs) = join (one r) (content_of rs)

-- the join of several contents
abbrev pub join_all : List Content → Content
join_all [] = empty
join_all (x ∷ xs) = join x (join_all xs)

-- whether a cell is live; none is not
abbrev pub is_live : Option Version → Bool
is_live None = false
is_live (Some c) = c.rank == 0
