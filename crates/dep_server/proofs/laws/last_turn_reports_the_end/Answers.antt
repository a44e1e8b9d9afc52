use Rattle.std.proofs.Common.{List, subst}
use Rattle.dep_connection.specs.Turns.{ServedPiece, Exchanges, EndsAs}
use Rattle.dep_connection.proofs.TalkLemmas.{last_reports}
use Rattle.dep_server.proofs.laws.last_turn_reports_the_end.Goals as goal

pub returns : goal.returns
returns c = λ talk before behind t is.
    last_reports talk.config talk.number talk.first talk.last before behind t talk.unread talk.has_failed talk.end
    (subst (λ (turns : List ServedPiece). Exchanges talk.config talk.number talk.first turns talk.last) is talk.answers)
    (subst (λ (turns : List ServedPiece). EndsAs talk.unread talk.has_failed turns talk.end) is talk.ends)
