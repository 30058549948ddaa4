use Rattle.std.proofs.Common.{rules}
use Rattle.std.proofs.lemmas.Iterator.{YieldsList-from_map_by}
use Rattle.std.proofs.lemmas.Iterator.Consumers.{map_from_collect, YieldsList-at}
use Rattle.layout.specs.Layout.{decoded, outcome}
use Rattle.listing.proofs.Lines.{pieces_in_chunks}
use Rattle.listing.proofs.read.read_lines.Goals as goal

pub returns : goal.returns
returns c =
    map_from_collect _ c.collect.ensures.ran
    (YieldsList-from_map_by _ outcome decoded (YieldsList-at c.map.ensures.source (pieces_in_chunks c.chunks.result c.args.bytes.now c.chunks.ensures.rest c.chunks.ensures.size)) c.map.ensures.closure (λ x r q k. search rules))
