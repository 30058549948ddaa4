use Rattle.std.proofs.Common.{rules}
use Rattle.layout.proofs.Trips.{row_told}
use Rattle.layout.proofs.record.RecordFromLawfulRow.from.Goals as goal

pub returns-in-Deletion : goal.returns-in-Deletion
returns-in-Deletion c = row_told c.args.lawful.row (search (rules, c.well_formed)) c.args.lawful.lawful _ (search rules)

pub returns-in-Live : goal.returns-in-Live
returns-in-Live c = row_told c.args.lawful.row (search (rules, c.well_formed)) c.args.lawful.lawful _ (search rules)

pub returns-in-Cleared : goal.returns-in-Cleared
returns-in-Cleared c = row_told c.args.lawful.row (search (rules, c.well_formed)) c.args.lawful.lawful _ (search rules)
