use Rattle.records.proofs.Equal.{value_told, state_told, plot_told, place_told, tombstone_told, cell_told, deletion_told, record_told}
use Rattle.records.proofs.Order.{value_order, state_order, tombstone_order, place_order, ranges}
use Rattle.records.proofs.laws.laws_hold.Goals as goal

pub returns : goal.returns
returns c = record { values = value_told; states = state_told; tombstones = tombstone_told; cells = cell_told; deletions = deletion_told; records = record_told; plots = plot_told; places = place_told; value_order = value_order; state_order = state_order; tombstone_order = tombstone_order; place_order = place_order; ranges = ranges }
