-- Places, values, cells and deletions are known by their fields.
use Rattle.std.proofs.Common.{◌≡◌, ◌≤◌, Bool, true, length, drop, Decides, nat_eq, ap}
use Rattle.std.proofs.lemmas.Bool.Decides.{Decides-eqb}
use Rattle.std.proofs.lemmas.Slice.Eq.{slice_eq-Decides}
use Rattle.std.specs.Cmp.Lexicographic.{pointwise}
use mathlib.Core.Bool.{Bool-set}
use mathlib.Core.HLevel.{is_prop→PathP}
use native.Mathlib.Bridge.{le_prop}
use native.Mathlib.Nat.{ℕ_set}
use Rattle.records.specs.declared.place.Place.{Place}
use Rattle.records.specs.declared.value.Value.{Value}
use Rattle.records.specs.declared.deletion.Deletion.{Deletion}
use Rattle.records.specs.declared.cell.Cell.{Cell}
use Rattle.records.specs.Zeros.{all_zero}
use Rattle.records.specs.States.{rank_of, day_of}

pub place_ext : (a b : Place) → a.plot.section ≡ b.plot.section → a.plot.number ≡ b.plot.number → a.field ≡ b.field → a ≡ b
place_ext a b s n f = λ i. record { plot = record { section = s i; number = n i }; field = f i }

pub value_ext : (a b : Value) → a.bytes ≡ b.bytes → a.len ≡ b.len → a ≡ b
value_ext a b p q = λ i. record {
  bytes = p i;
  len = q i;
  short = is_prop→PathP (λ j. q j ≤ 23) (λ j. le_prop) a.short b.short i;
  whole = is_prop→PathP (λ j. length (p j) ≡ 23) (λ j. ℕ_set (length (p j)) 23) a.whole b.whole i;
  padded = is_prop→PathP (λ j. all_zero (drop (q j) (p j)) ≡ true) (λ j. Bool-set (all_zero (drop (q j) (p j))) true) a.padded b.padded i;
}

pub deletion_ext : (a b : Deletion) → a.section ≡ b.section → a.first ≡ b.first → a.last ≡ b.last → a.tombstone ≡ b.tombstone → a ≡ b
deletion_ext a b s f l t = λ i. record {
  section = s i;
  first = f i;
  last = l i;
  tombstone = t i;
  section_low = is_prop→PathP (λ j. 1 ≤ s j) (λ j. le_prop) a.section_low b.section_low i;
  section_high = is_prop→PathP (λ j. s j ≤ 9999) (λ j. le_prop) a.section_high b.section_high i;
  first_low = is_prop→PathP (λ j. 1 ≤ f j) (λ j. le_prop) a.first_low b.first_low i;
  in_order = is_prop→PathP (λ j. f j ≤ l j) (λ j. le_prop) a.in_order b.in_order i;
  last_high = is_prop→PathP (λ j. l j ≤ 999999) (λ j. le_prop) a.last_high b.last_high i;
  stamp_low = is_prop→PathP (λ j. 1 ≤ (t j).stamp) (λ j. le_prop) a.stamp_low b.stamp_low i;
  stamp_high = is_prop→PathP (λ j. (t j).stamp ≤ 9223372036854775807) (λ j. le_prop) a.stamp_high b.stamp_high i;
  day_low = is_prop→PathP (λ j. 1 ≤ (t j).day) (λ j. le_prop) a.day_low b.day_low i;
  day_high = is_prop→PathP (λ j. (t j).day ≤ 99999) (λ j. le_prop) a.day_high b.day_high i;
}

pub cell_ext : (a b : Cell) → a.place ≡ b.place → a.stamp ≡ b.stamp → a.state ≡ b.state → a ≡ b
cell_ext a b p t v = λ i. record {
  place = p i;
  stamp = t i;
  state = v i;
  section_low = is_prop→PathP (λ j. 1 ≤ (p j).plot.section) (λ j. le_prop) a.section_low b.section_low i;
  section_high = is_prop→PathP (λ j. (p j).plot.section ≤ 9999) (λ j. le_prop) a.section_high b.section_high i;
  plot_low = is_prop→PathP (λ j. 1 ≤ (p j).plot.number) (λ j. le_prop) a.plot_low b.plot_low i;
  plot_high = is_prop→PathP (λ j. (p j).plot.number ≤ 999999) (λ j. le_prop) a.plot_high b.plot_high i;
  field_low = is_prop→PathP (λ j. 1 ≤ (p j).field) (λ j. le_prop) a.field_low b.field_low i;
  field_high = is_prop→PathP (λ j. (p j).field ≤ 32) (λ j. le_prop) a.field_high b.field_high i;
  stamp_low = is_prop→PathP (λ j. 1 ≤ t j) (λ j. le_prop) a.stamp_low b.stamp_low i;
  stamp_high = is_prop→PathP (λ j. t j ≤ 9223372036854775807) (λ j. le_prop) a.stamp_high b.stamp_high i;
  day_low = is_prop→PathP (λ j. rank_of (v j) ≤ day_of (v j)) (λ j. le_prop) a.day_low b.day_low i;
  day_high = is_prop→PathP (λ j. day_of (v j) ≤ 99999) (λ j. le_prop) a.day_high b.day_high i;
}

-- the lengths are equal, and the bytes are compared
pub value_same : (a b : Value) (r : Bool) → a.len ≡ b.len → Decides r (a.bytes ≡ b.bytes) → Decides r (a ≡ b)
value_same a b r l h = (λ e. value_ext a b (h.0 e) l, λ e. h.1 (ap (λ v. v.bytes) e))

pub value_told : (a b : Value) (r : Bool) → a.len ≡ b.len → r ≡ pointwise nat_eq a.bytes b.bytes → Decides r (a ≡ b)
value_told a b r l e = value_same a b r l (slice_eq-Decides Decides-eqb a.bytes b.bytes r e)
