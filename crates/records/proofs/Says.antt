-- A record is known by what it says.
use Rattle.std.proofs.Common.{◌≡◌, ℕ, ◌-◌, ◌++◌, length, drop, replicate, sym, refl, ap, ◌∙◌, arith}
use Rattle.std.proofs.lemmas.List.{take-append-drop, length-take-le, length-drop}
use Rattle.records.specs.declared.value.Value.{Value}
use Rattle.records.specs.declared.state.State.{State}
use Rattle.records.specs.declared.state.State.TheVariants.{Live, Cleared}
use Rattle.records.specs.declared.cell.Cell.{Cell}
use Rattle.records.specs.declared.record.Record.{Record}
use Rattle.records.specs.declared.record.Record.TheVariants as which
use Rattle.records.specs.States.{bytes_of, rank_of, day_of, value_of}
use Rattle.records.specs.Content.{Mutation, deletion, entry}
use Rattle.records.specs.Meaning.{version_of, deletion_says, cell_says, says}
use Rattle.records.proofs.Zeros.{zeros_are}
use Rattle.records.proofs.Ext.{place_ext, value_ext, deletion_ext, cell_ext}

-- a value's length is its own
pub value_long : (v : Value) → length (bytes_of v) ≡ v.len
value_long v = length-take-le v.len v.bytes (omega (arith, v.short, v.whole))

-- its bytes are the value and then zeros
pub value_padded : (v : Value) → v.bytes ≡ bytes_of v ++ replicate (23 - length (bytes_of v)) 0
value_padded v =
    let l : length (drop v.len v.bytes) ≡ 23 - v.len = simp length-drop (omega (arith, v.whole)) in
    let z : drop v.len v.bytes ≡ replicate (23 - v.len) 0 = zeros_are (drop v.len v.bytes) (23 - v.len) l v.padded in
    sym (take-append-drop v.len v.bytes)
    ∙ ap (λ x. bytes_of v ++ x) z
    ∙ ap (λ n. bytes_of v ++ replicate (23 - n) 0) (sym (value_long v))

pub value_known : (v w : Value) → bytes_of v ≡ bytes_of w → v ≡ w
value_known v w e =
    value_ext v w
    (value_padded v ∙ ap (λ x. x ++ replicate (23 - length x) 0) e ∙ sym (value_padded w))
    (sym (value_long v) ∙ ap length e ∙ value_long w)

pub state_known : (s t : State) → rank_of s ≡ rank_of t → day_of s ≡ day_of t → value_of s ≡ value_of t → s ≡ t
state_known (Live v) (Live w) r d e = ap Live (value_known v w e)
state_known (Cleared x) (Cleared y) r d e = ap Cleared d
state_known (Live v) (Cleared y) r d e = absurd (omega arith)
state_known (Cleared x) (Live w) r d e = absurd (omega arith)

-- a cell by its place and its version
pub cell_known : (a b : Cell) → a.place ≡ b.place → version_of a ≡ version_of b → a ≡ b
cell_known a b p v =
    cell_ext a b p (ap (λ x. x.stamp) v)
    (state_known a.state b.state (ap (λ x. x.rank) v) (ap (λ x. x.day) v) (ap (λ x. x.value) v))

apart : (s a b : ℕ) (s' p f : ℕ) (x : Mutation) (t : _) (c : _) → x ≡ deletion s a b t → x ≡ entry s' p f c → ⊥
apart s a b s' p f x t c h k = let z : ◌≡◌ {A = ℕ} 0 1 = cc in omega arith

pub says_known : (x y : Record) → says x ≡ says y → x ≡ y
says_known (which.Deletion a) (which.Deletion b) e =
    let s : a.section ≡ b.section = cc in
    let f : a.first ≡ b.first = cc in
    let l : a.last ≡ b.last = cc in
    let t : a.tombstone ≡ b.tombstone = cc in
    ap which.Deletion (deletion_ext a b s f l t)
says_known (which.Cell a) (which.Cell b) e =
    let s : a.place.plot.section ≡ b.place.plot.section = cc in
    let n : a.place.plot.number ≡ b.place.plot.number = cc in
    let f : a.place.field ≡ b.place.field = cc in
    let v : version_of a ≡ version_of b = cc in
    ap which.Cell (cell_known a b (place_ext a.place b.place s n f) v)
says_known (which.Deletion a) (which.Cell b) e = absurd (apart _ _ _ _ _ _ (deletion_says a) _ _ refl e)
says_known (which.Cell a) (which.Deletion b) e = absurd (apart _ _ _ _ _ _ (cell_says a) _ _ e refl)
