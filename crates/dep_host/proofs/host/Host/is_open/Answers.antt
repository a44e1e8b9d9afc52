use Rattle.std.proofs.Common.{[], false, true, Ok, Err, inl, inr, refl, sym, ◌∙◌, rules}
use Rattle.std.proofs.lemmas.List.Elements.{Contains-push}
use Rattle.dep_exchange.specs.Archives.{KeepsAll}
use Rattle.dep_host.proofs.HostLemmas.{asked_alone, represents_still, reported_shut, reported_open, reported_as}
use Rattle.dep_host.proofs.host.Host.is_open.Goals as goal

pub returns-then-is_some : goal.returns-then-is_some
returns-then-is_some g c = record {
  asks = record {
    steps = represents_still g.A.Archive.condition g.R.Source.unread g.K.Sink.taken g.S.Spool.held _;
    reported = inl refl;
    limits = refl;
    first = refl;
    known = inl (sym c.is_some.ensures ∙ c.if-is_some.true, refl);
  };
  slots = refl;
  unreported = λ e. cc;
  shut = λ e. sym c.is_some.ensures ∙ c.if-is_some.true;
}

pub returns-in-Ok-false : goal.returns-in-Ok-false
returns-in-Ok-false g c = record {
  asks = record {
    steps = asked_alone g.A.Archive.condition g.R.Source.unread g.K.Sink.taken g.S.Spool.held _ _ KeepsAll c.is_open.ensures.rests c.is_open.ensures.rests.store.kept c.is_open.ensures.rests.store.was_open c.is_open.ensures.rests.store.honest refl refl (inr (sym c.is_some.ensures ∙ c.if-is_some.false, λ is. reported_shut (g.A.Archive.condition c.is_open.new.self.store) c.in-Ok-false.field-0 (search rules) c.in-Ok-false.ensures.reported));
    reported = inr (sym c.is_some.ensures ∙ c.if-is_some.false, Contains-push [] c.args.second);
    limits = refl;
    first = refl;
    known = inr (
      Ok false,
      reported_as (g.A.Archive.call_log c.args.self.now.hub.store) (g.A.Archive.call_log c.is_open.new.self.store) c.in-Ok-false.field-0 false (search rules) c.in-Ok-false.ensures.asked,
      (refl, refl, reported_shut (g.A.Archive.condition c.is_open.new.self.store) c.in-Ok-false.field-0 (search rules) c.in-Ok-false.ensures.reported),
    );
  };
  slots = refl;
  unreported = λ e. cc;
  shut = λ e. refl;
}

pub returns-in-Ok-true : goal.returns-in-Ok-true
returns-in-Ok-true g c = record {
  asks = record {
    steps = asked_alone g.A.Archive.condition g.R.Source.unread g.K.Sink.taken g.S.Spool.held _ _ KeepsAll c.is_open.ensures.rests c.is_open.ensures.rests.store.kept c.is_open.ensures.rests.store.was_open c.is_open.ensures.rests.store.honest refl refl (inl refl);
    reported = inl refl;
    limits = refl;
    first = refl;
    known = inr (
      Ok true,
      reported_as (g.A.Archive.call_log c.args.self.now.hub.store) (g.A.Archive.call_log c.is_open.new.self.store) c.in-Ok-true.field-0 true (search rules) c.in-Ok-true.ensures.asked,
      (sym c.is_some.ensures ∙ c.if-is_some.false, refl, reported_open (g.A.Archive.condition c.is_open.new.self.store) c.in-Ok-true.field-0 (search rules) c.in-Ok-true.ensures.reported),
    );
  };
  slots = refl;
  unreported = λ e. sym c.is_some.ensures ∙ c.if-is_some.false;
  shut = λ e. cc;
}

pub returns-in-Err : goal.returns-in-Err
returns-in-Err g c = record {
  asks = record {
    steps = asked_alone g.A.Archive.condition g.R.Source.unread g.K.Sink.taken g.S.Spool.held _ _ KeepsAll c.is_open.ensures.rests c.is_open.ensures.rests.store.kept c.is_open.ensures.rests.store.was_open c.is_open.ensures.rests.store.honest refl refl (inl refl);
    reported = inl refl;
    limits = refl;
    first = refl;
    known = inr (Err c.in-Err._fault, c.in-Err.ensures.asked, (sym c.is_some.ensures ∙ c.if-is_some.false, c.saturating_add-self.ensures, c.in-Err.ensures.cause));
  };
  slots = refl;
  unreported = λ e. sym c.is_some.ensures ∙ c.if-is_some.false;
  shut = λ e. cc;
}
