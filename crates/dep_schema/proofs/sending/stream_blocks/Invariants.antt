use Rattle.std.proofs.Common.{◌≡◌}
use Rattle.dep_tables.specs.Rows.{owner_values}
use Rattle.dep_tables.specs.Texts.{blocks_of_text}
use Rattle.dep_schema.proofs.RowsSent.{HasSent}
use Rattle.dep_schema.proofs.sending.stream_blocks.Given as goal

abbrev pub invariant-rows : goal.invariant-rows
invariant-rows g l =
    (l.rows.conn.ghost_name ≡ l.initial.rows.conn.ghost_name)
    × HasSent g.S.Store blocks_of_text (owner_values l.fn.owner) l.fn.connection l.rows.conn.now l.fn.size l.left l.counter
    (g.O.Outlet.taken l.fn.out) (g.O.Outlet.taken l.out) (g.O.Outlet.failures l.fn.out) (g.O.Outlet.failures l.out)
