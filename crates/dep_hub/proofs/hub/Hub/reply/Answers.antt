use Rattle.std.proofs.Common.{List, None, [], length, ◌<◌, refl, sym, ap, subst, ◌∙◌}
use Rattle.std.proofs.KnownBytes.{Appends-nil, Keeps-refl}
use Rattle.dep_hub.specs.Claims.{is_awaited_by}
use Rattle.dep_hub.specs.Numbers.{place_of_number}
use Rattle.dep_hub.specs.Owed.{IsOwed}
use Rattle.dep_hub.specs.Preparing.{is_preparing}
use Rattle.dep_hub.specs.RepresentsOwing.{NextIsAnswerable, is_looked_at, is_unsent}
use Rattle.dep_hub.specs.declared.connections.Connection.{Connection}
use Rattle.dep_hub.specs.declared.rest.Behind.{Behind}
use Rattle.dep_hub.proofs.ConnectionLemmas.{index_none}
use Rattle.dep_hub.proofs.HubLemmas.{same_hub, none_there}
use Rattle.dep_hub.proofs.BehindLemmas.{behind_none, not_there, some_such}
use Rattle.dep_hub.proofs.PendingLemmas.{not_broken}
use Rattle.dep_hub.proofs.PreparingLemmas.{there_none}
use Rattle.dep_hub.proofs.LookLemmas.{goes_same, kept_goes, kept_there, replies_same, turn_same}
use Rattle.dep_hub.proofs.hub.Hub.reply.Goals as goal

-- there is no such connection
pub returns-in_default : goal.returns-in_default
returns-in_default g c =
    let items = c.args.self.now.connections.items in
    let none = ap (place_of_number c.args.connection) (sym c.as_slice.ensures.value) ∙ (sym c.index_among.ensures.value ∙ c.in_default.is) in
    let absent = index_none c.args.connection items none in
    let empty = behind_none c.args.connection items none in
    record {
      goes = record { config = refl {a = c.args.self.now.config}; next = refl {a = c.args.self.now.next}; clean = λ h. h; honest = λ h. h };
      absent = λ _. refl;
      there = λ there. absurd (none_there _ absent there);
      later = λ e. cc;
      free = λ reading there. absurd (not_there _ reading absent there);
      prepared = λ nothing reading there. absurd (not_there _ reading absent there);
      unbroken = λ broken. not_broken None (sym empty ∙ broken);
      replies = record {
        now = [];
        appends = Appends-nil (g.O.Outlet.taken c.args.out.now);
        more = None;
        answers = record { absent = absent; same = same_hub c.args.self.now _ _ _; sends_nothing = Keeps-refl (g.O.Outlet.taken c.args.out.now) };
        owes = λ honest s represents. subst (λ (b : Behind). IsOwed s b []) (sym empty) refl;
        paid = ap is_unsent empty;
        prepared = ap is_preparing empty;
        let_go = ap is_looked_at empty;
        others = λ m other. refl;
        unawaited = λ honest w held at. ap (is_awaited_by items) empty;
      };
      turn = refl {a = c.args.self.now.last_turn};
    }

pub keeps_back-requires : goal.keeps_back-requires
keeps_back-requires g c = record {
  index = ap (place_of_number c.args.connection) (sym c.as_slice.ensures.value) ∙ sym c.in-Some.ensures.value;
  within = rw c.as_slice.ensures.value at c.in-Some.ensures.within;
}

-- it is kept back
pub returns-then-keeps_back : goal.returns-then-keeps_back
returns-then-keeps_back g c =
    let old = c.args.self.now in
    let index = ap (place_of_number c.args.connection) (sym c.as_slice.ensures.value) ∙ sym c.in-Some.ensures.value in
    let keeps = c.keeps_back.ensures.kept c.if-keeps_back.true (g.O.Outlet.taken c.args.out.now) (g.O.Outlet.failures c.args.out.now) in
    record {
      goes = kept_goes g.A.Archive.condition old c.keeps_back.new.self c.args.connection (g.O.Outlet.taken c.args.out.now) (g.O.Outlet.failures c.args.out.now) keeps;
      absent = λ none. absurd (there_none c.args.connection c.in-Some.i old.connections.items index none);
      there = λ _. ((λ e. cc), kept_there g.A.Archive.condition old c.keeps_back.new.self c.args.connection (g.O.Outlet.taken c.args.out.now) (g.O.Outlet.failures c.args.out.now) keeps);
      later = λ _. keeps;
      free = tt;
      prepared = tt;
      unbroken = tt;
      replies = tt;
      turn = c.keeps_back.ensures.turn;
    }

-- it is answered
pub answer_at-requires : goal.answer_at-requires
answer_at-requires g c =
    let same = ap (λ h. h.connections.items) (c.keeps_back.ensures.answerable c.if-keeps_back.false).0 in
    record {
      index = ap (place_of_number c.args.connection) (same ∙ sym c.as_slice.ensures.value) ∙ sym c.in-Some.ensures.value;
      within = subst (λ (cs : List Connection). c.in-Some.i < length cs) (sym same) (rw c.as_slice.ensures.value at c.in-Some.ensures.within);
      free = subst (λ (cs : List Connection). NextIsAnswerable cs c.args.connection) (sym same) (c.keeps_back.ensures.answerable c.if-keeps_back.false).1;
    }

pub returns : goal.returns
returns g c =
    let old = c.args.self.now in
    let same = (c.keeps_back.ensures.answerable c.if-keeps_back.false).0 in
    let index = ap (place_of_number c.args.connection) (sym c.as_slice.ensures.value) ∙ sym c.in-Some.ensures.value in
    let found = (c.keeps_back.ensures.answerable c.if-keeps_back.false).1 in
    record {
      goes = goes_same g.A.Archive.condition old c.keeps_back.new.self c.answer_at.new.self same c.answer_at.ensures.goes;
      absent = λ none. absurd (there_none c.args.connection c.in-Some.i old.connections.items index none);
      there = λ _. (some_such c.answer_at.result c.answer_at.ensures.there.0, c.answer_at.ensures.there.1);
      later = λ e. cc;
      free = λ reading there. (found reading there).1;
      prepared = λ nothing reading there. (found reading there).2 nothing;
      unbroken = c.answer_at.ensures.unbroken;
      replies = replies_same g.A.Archive.condition old c.keeps_back.new.self c.answer_at.new.self c.args.connection c.args.moment c.answer_at.result
          (g.O.Outlet.taken c.args.out.now) (g.O.Outlet.taken c.answer_at.new.out) (g.O.Outlet.failures c.args.out.now) (g.O.Outlet.failures c.answer_at.new.out)
          same c.answer_at.ensures.replies;
      turn = turn_same old c.keeps_back.new.self c.answer_at.new.self same c.answer_at.ensures.turn;
    }
