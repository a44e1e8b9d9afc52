use Rattle.std.proofs.Common.{◌≡◌, inl, inr, refl, arith}
use Rattle.dep_commands.proofs.ServeLemmas.{none_served, one_served, so_many, serves_then}
use Rattle.dep_commands.proofs.serve.serve_on.Goals as goal

pub loop-init : goal.loop-init
loop-init g c = record { call = c.requires; goes = record { config = refl; clean = λ h. h; honest = λ h. h }; served = none_served _ _ _ _ }

pub loop-preserved : goal.loop-preserved
loop-preserved g c = record {
  call = c.serve_stream.ensures.call;
  goes = serves_then _ _ _ _ c.loop.invariant.goes c.serve_stream.ensures.one.goes;
  served = one_served _ _ _ _ _ _ _ _ _ c.loop.invariant.served c.serve_stream.ensures.one.goes.clean _ c.serve_stream.result c.serve_stream.ensures.one;
}

pub returns-in_default-clause-goes : goal.returns-in_default-clause-goes
returns-in_default-clause-goes g c = c.loop.invariant.goes

pub returns-in_default-clause-serves : goal.returns-in_default-clause-serves
returns-in_default-clause-serves g c =
    let served = c.loop.invariant.served in (
      served.talks,
      inr (c.loop.counter, c.loop-test.true, served.among, refl),
      served.these,
      (c.loop.clock, served.moments),
    )

pub returns-clause-goes : goal.returns-clause-goes
returns-clause-goes g c = c.loop.invariant.goes

pub returns-clause-serves : goal.returns-clause-serves
returns-clause-serves g c =
    let served = c.loop.invariant.served in
    let all : c.loop.counter ≡ c.args.count = omega arith in (
      served.talks,
      inl (so_many served.talks _ _ all served.among, refl),
      served.these,
      (c.loop.clock, served.moments),
    )
