use Rattle.std.proofs.Common.{List, ℕ, refl, ◌≡◌, ◌∙◌, ◌++◌, take, ap, subst}
use Rattle.std.proofs.lemmas.List.{take-append-drop}
use Rattle.dep_body.specs.declared.frame.Framing.{Framing}
use Rattle.dep_message.specs.Working.{IsBegun, ReadsOn}
use Rattle.dep_message.proofs.Chunks.{reads_none}
use Rattle.dep_message.proofs.unparsed.Unparsed.begin.Goals as goal

pub begin_sized-requires-clause-size : goal.begin_sized-requires-clause-size
begin_sized-requires-clause-size c = rw c.in-Empty.is refl

pub begin_sized-requires-in-Length-clause-size : goal.begin_sized-requires-in-Length-clause-size
begin_sized-requires-in-Length-clause-size c = rw c.in-Length.is refl

pub read_chunks-requires : goal.read_chunks-requires
read_chunks-requires c =
    let w = c.args.self.now in
    let n = c.args.first.length in
    let begun = subst (λ (f : Framing). IsBegun w.limit w.continued (take n w.buffer) c.args.first.head f) c.in-Chunked.is c.requires.begun in
    record { fresh = c.requires.fresh; known = reads_none _ _ (take n w.buffer) _ c.drop_front-used.ensures.used begun c.new.ensures.limit c.new.ensures.fed }

pub returns-in-Chunked : goal.returns-in-Chunked
returns-in-Chunked c =
    let w = c.args.self.now in
    let n = c.args.first.length in
    let dropped = c.drop_front-used in
    let whole : dropped.result.items ++ dropped.new.self ≡ w.buffer =
    ap (λ l. l ++ dropped.new.self) dropped.ensures.used ∙ (ap (λ l. take n w.buffer ++ l) dropped.ensures.rest ∙ take-append-drop n w.buffer) in
    subst (λ (l : List ℕ). ReadsOn w l c.read_chunks.new.self c.read_chunks.result) whole c.read_chunks.ensures
