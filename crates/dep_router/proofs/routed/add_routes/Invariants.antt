use Rattle.std.proofs.Common.{◌≡◌, [], take}
use Rattle.dep_router.specs.declared.pages.TheConstants.{PAGES}
use Rattle.dep_router.proofs.InsertLemmas.{added}
use Rattle.dep_router.proofs.routed.add_routes.Given as goal

-- the routes so far are in
abbrev pub invariant-loop-page : goal.invariant-loop-page
invariant-loop-page l = l.router ≡ added [] (take l.page-index PAGES)
