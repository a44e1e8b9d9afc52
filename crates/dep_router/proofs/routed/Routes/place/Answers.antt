use Rattle.std.proofs.Common.{◌∙◌, ℕ, List, get_or, Fits, w8, sym, ap, arith}
use Rattle.matchit.specs.Level.{IsText}
use Rattle.matchit.specs.Seek.{first}
use Rattle.dep_router.proofs.PathLemmas.{no_route}
use Rattle.dep_router.proofs.PartLemmas.{found_reads, is_text}
use Rattle.dep_router.proofs.PlaceLemmas.{found_ends}
use Rattle.dep_router.proofs.routed.Routes.place.Goals as goal

of_bytes : (path : List ℕ) → ((i : ℕ) → Fits w8 (get_or path i 0)) → IsText path
of_bytes path bytes = is_text path (λ i. let h = bytes i in omega (arith, h))

pub place_of_page-requires : goal.place_of_page-requires
place_of_page-requires c =
    (found_reads c.self.inside.router c.args.path.now c.in-Ok.found.params c.in-Ok.found.value.now (of_bytes c.args.path.now c.type_inv.path) c.utf8.path c.self.invariant c.in-Ok.ensures.found c.in-Ok.ensures.path).0

pub returns-in-Ok-clause-named : goal.returns-in-Ok-clause-named
returns-in-Ok-clause-named c =
    c.place_of_page.ensures.named
    ∙ (found_reads c.self.inside.router c.args.path.now c.in-Ok.found.params c.in-Ok.found.value.now (of_bytes c.args.path.now c.type_inv.path) c.utf8.path c.self.invariant c.in-Ok.ensures.found c.in-Ok.ensures.path).1

pub returns-in-Ok-clause-ends : goal.returns-in-Ok-clause-ends
returns-in-Ok-clause-ends c =
    found_ends c.self.inside.router c.args.path.now c.in-Ok.found.params c.in-Ok.found.value.now c.place_of_page.result (of_bytes c.args.path.now c.type_inv.path) c.self.invariant c.in-Ok.ensures.found c.in-Ok.ensures.path
    c.place_of_page.ensures.path

pub returns-in-Err-clause-named : goal.returns-in-Err-clause-named
returns-in-Err-clause-named c =
    sym (no_route c.args.path.now (of_bytes c.args.path.now c.type_inv.path) (ap (λ r. first r c.args.path.now) (sym c.self.invariant) ∙ c.in-Err.ensures.missing))
