use Rattle.std.proofs.Common.{refl}
use Rattle.dep_commands.proofs.ServeLemmas.{over_socket, not_served}
use Rattle.dep_commands.proofs.serve.serve_stream.Goals as goal

pub returns-clause-one : goal.returns-clause-one
returns-clause-one g c =
    over_socket g.A.Archive.condition _ _ _ _ _ _ _ c.serve_connection.result _ _ refl c.new-inlet.ensures.reads c.new-inlet.ensures.last
    refl c.in-Ok.ensures.failures c.in-Ok.ensures.empty c.in-Ok.ensures.open c.serve_connection.ensures.converses c.serve_connection.ensures.goes

pub returns-in_default-clause-one : goal.returns-in_default-clause-one
returns-in_default-clause-one g c = not_served g.A.Archive.condition _ _ _ c.args.hub.now (g.met.A.Archive.settled c.args.hub.now.store)
