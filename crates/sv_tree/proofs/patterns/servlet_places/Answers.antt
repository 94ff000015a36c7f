use Rattle.sv_tree.proofs.Beside.{places-more}
use Rattle.sv_tree.proofs.patterns.servlet_places.Goals as goal

pub loop-mapping-preserved : goal.loop-mapping-preserved
loop-mapping-preserved c =
    places-more c.args.servlets.now c.args.mappings.now c.loop-mapping.mapping-index c.mapping-item.result c.loop-mapping.places.items c.push_place_beside.new.places.items c.servlet_place-place.result
    c.loop-mapping-test.true c.mapping-item.is c.loop-mapping.invariant
    (rw c.as_str.ensures at c.servlet_place-place.ensures)
    (rw c.as_slice.ensures at c.in_ok-push_place_beside.ensures)
