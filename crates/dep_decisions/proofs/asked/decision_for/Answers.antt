use Rattle.std.proofs.Common.{◌≡◌, ◌∙◌, IfOk, Some, ap, subst, sym}
use Rattle.std.specs.Option.{option_copied}
use Rattle.dep_fields.specs.declared.kind.Kind.TheVariants as of
use Rattle.dep_decisions.specs.Kinds.{content_kind}
use Rattle.dep_decisions.specs.Purposes.{kind_for}
use Rattle.dep_decisions.specs.declared.decision.Decision.{Decision}
use Rattle.dep_decisions.specs.declared.purpose.Purpose.{Purpose}
use Rattle.dep_decisions.proofs.ContentAsked.{entries_asked, file_asked, opening_asked, segment_asked, texts_asked}
use Rattle.dep_decisions.proofs.asked.decision_for.Goals as goal

pub returns-in-File : goal.returns-in-File
returns-in-File c =
    let op = c.args.operation.now in
    let is : content_kind op ≡ Some (of.File c.in-File.name.now) = sym c.requires.purpose ∙ ap (λ (p : Purpose). Some (kind_for p)) c.in-File.is in
    subst (λ (asked : Decision). IfOk c.filed.result (λ d. d ≡ asked)) (file_asked (option_copied c.args.references) op c.in-File.name.now is) c.filed.ensures

pub returns-in-Metadata : goal.returns-in-Metadata
returns-in-Metadata c =
    let op = c.args.operation.now in
    let is : content_kind op ≡ Some of.Metadata = sym c.requires.purpose ∙ ap (λ (p : Purpose). Some (kind_for p)) c.in-Metadata.is in
    c.described.ensures ∙ texts_asked (option_copied c.args.references) op c.args.read.metadata is (c.requires.read.metadata is)

pub returns-in-References : goal.returns-in-References
returns-in-References c =
    let op = c.args.operation.now in
    let is : content_kind op ≡ Some of.References = sym c.requires.purpose ∙ ap (λ (p : Purpose). Some (kind_for p)) c.in-References.is in
    subst (λ (asked : Decision). IfOk c.referred.result (λ d. d ≡ asked)) (entries_asked (option_copied c.args.references) op is) c.referred.ensures

pub returns-in-Opening : goal.returns-in-Opening
returns-in-Opening c =
    let op = c.args.operation.now in
    let is : content_kind op ≡ Some (of.Opening c.in-Opening.opening) = sym c.requires.purpose ∙ ap (λ (p : Purpose). Some (kind_for p)) c.in-Opening.is in
    opening_asked (option_copied c.args.references) op c.in-Opening.opening is

pub returns-in-Segment : goal.returns-in-Segment
returns-in-Segment c =
    let op = c.args.operation.now in
    let is : content_kind op ≡ Some (of.Segment c.in-Segment.segment) = sym c.requires.purpose ∙ ap (λ (p : Purpose). Some (kind_for p)) c.in-Segment.is in
    c.received.ensures ∙ segment_asked (option_copied c.args.references) op c.in-Segment.segment is
