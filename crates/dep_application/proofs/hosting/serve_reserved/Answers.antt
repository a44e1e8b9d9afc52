use Rattle.dep_application.proofs.hosting.serve_reserved.Goals as goal

pub returns : goal.returns
returns g c =
    let served = c.serve_hub-outcome in
    record {
      left = served.result.1;
      same = c.into_archive.ensures;
      log_before = _;
      log_after = _;
      serves = rw c.host_limits.ensures at served.ensures.ends;
    }
