-- What `==` tells of records and of what they are made of: whether two are one.
use Rattle.std.proofs.Common.{◌≡◌, ◌==◌, Decides, ap}
use Rattle.std.proofs.lemmas.Bool.Decides.{Decides-eqb, Decides-and, Decides-like}
use Rattle.std.specs.Cmp.Lexicographic.{bytes_decides}
use Rattle.records.specs.declared.tombstone.Tombstone.{Tombstone}
use Rattle.records.specs.declared.place.Place.{Place}
use Rattle.records.specs.declared.place.Plot.{Plot}
use Rattle.records.specs.declared.value.Value.{Value}
use Rattle.records.specs.declared.state.State.{State}
use Rattle.records.specs.declared.state.State.TheVariants.{Live, Cleared}
use Rattle.records.specs.declared.cell.Cell.{Cell}
use Rattle.records.specs.declared.deletion.Deletion.{Deletion}
use Rattle.records.specs.declared.record.Record.{Record}
use Rattle.records.specs.declared.record.Record.TheVariants as which
use Rattle.records.specs.contracts.tombstone.TombstonePartialEq.TheImpl as tombstone_eq
use Rattle.records.specs.contracts.place.PlacePartialEq.TheImpl as place_eq
use Rattle.records.specs.contracts.place.PlotPartialEq.TheImpl as plot_eq
use Rattle.records.specs.contracts.value.ValuePartialEq.TheImpl as value_eq
use Rattle.records.specs.contracts.state.StatePartialEq.TheImpl as state_eq
use Rattle.records.specs.contracts.cell.CellPartialEq.TheImpl as cell_eq
use Rattle.records.specs.contracts.deletion.DeletionPartialEq.TheImpl as deletion_eq
use Rattle.records.specs.contracts.record.RecordPartialEq.TheImpl as record_eq
use Rattle.records.proofs.Ext.{value_ext, cell_ext, deletion_ext}

pub value_told : (a b : Value) → Decides ((value_eq.ghosts).eq a b) (a ≡ b)
value_told a b =
    Decides-like ((value_eq.ghosts).eq a b) (λ h. value_ext a b h.1 h.0) (λ e. (ap (λ v. v.len) e, ap (λ v. v.bytes) e))
    (Decides-and _ _ (Decides-eqb a.len b.len) (bytes_decides a.bytes b.bytes))

pub state_told : (a b : State) → Decides ((state_eq.ghosts).eq a b) (a ≡ b)
state_told (Live v) (Live w) = Decides-like ((value_eq.ghosts).eq v w) (ap Live) (λ e. cc) (value_told v w)
state_told (Cleared x) (Cleared y) = Decides-like (x == y) (ap Cleared) (λ e. cc) (Decides-eqb x y)
state_told (Live v) (Cleared y) = (λ t. cc, λ e. cc)
state_told (Cleared x) (Live w) = (λ t. cc, λ e. cc)

pub plot_told : (a b : Plot) → Decides ((plot_eq.ghosts).eq a b) (a ≡ b)
plot_told a b =
    Decides-like ((plot_eq.ghosts).eq a b)
    (λ h. λ i. record { section = h.0 i; number = h.1 i })
    (λ e. (ap (λ p. p.section) e, ap (λ p. p.number) e))
    (Decides-and _ _ (Decides-eqb a.section b.section) (Decides-eqb a.number b.number))

pub place_told : (a b : Place) → Decides ((place_eq.ghosts).eq a b) (a ≡ b)
place_told a b =
    Decides-like ((place_eq.ghosts).eq a b)
    (λ h. λ i. record { plot = h.0 i; field = h.1 i })
    (λ e. (ap (λ p. p.plot) e, ap (λ p. p.field) e))
    (Decides-and _ _ (plot_told a.plot b.plot) (Decides-eqb a.field b.field))

pub tombstone_told : (a b : Tombstone) → Decides ((tombstone_eq.ghosts).eq a b) (a ≡ b)
tombstone_told a b =
    Decides-like ((tombstone_eq.ghosts).eq a b)
    (λ h. λ i. record { stamp = h.0 i; day = h.1 i })
    (λ e. (ap (λ t. t.stamp) e, ap (λ t. t.day) e))
    (Decides-and _ _ (Decides-eqb a.stamp b.stamp) (Decides-eqb a.day b.day))

pub cell_told : (a b : Cell) → Decides ((cell_eq.ghosts).eq a b) (a ≡ b)
cell_told a b =
    Decides-like ((cell_eq.ghosts).eq a b)
    (λ h. cell_ext a b h.0 h.1.0 h.1.1)
    (λ e. (ap (λ c. c.place) e, (ap (λ c. c.stamp) e, ap (λ c. c.state) e)))
    (Decides-and _ _ (place_told a.place b.place)
    (Decides-and _ _ (Decides-eqb a.stamp b.stamp) (state_told a.state b.state)))

pub deletion_told : (a b : Deletion) → Decides ((deletion_eq.ghosts).eq a b) (a ≡ b)
deletion_told a b =
    Decides-like ((deletion_eq.ghosts).eq a b)
    (λ h. deletion_ext a b h.0 h.1.0 h.1.1.0 h.1.1.1)
    (λ e. (ap (λ d. d.section) e, (ap (λ d. d.first) e, (ap (λ d. d.last) e, ap (λ d. d.tombstone) e))))
    (Decides-and _ _ (Decides-eqb a.section b.section)
    (Decides-and _ _ (Decides-eqb a.first b.first)
    (Decides-and _ _ (Decides-eqb a.last b.last) (tombstone_told a.tombstone b.tombstone))))

pub record_told : (a b : Record) → Decides ((record_eq.ghosts).eq a b) (a ≡ b)
record_told (which.Deletion d) (which.Deletion e) = Decides-like ((deletion_eq.ghosts).eq d e) (ap which.Deletion) (λ p. cc) (deletion_told d e)
record_told (which.Cell c) (which.Cell d) = Decides-like ((cell_eq.ghosts).eq c d) (ap which.Cell) (λ p. cc) (cell_told c d)
record_told (which.Deletion d) (which.Cell c) = (λ t. cc, λ p. cc)
record_told (which.Cell c) (which.Deletion d) = (λ t. cc, λ p. cc)
