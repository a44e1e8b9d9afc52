use Rattle.std.proofs.Common.{List, ℕ, ◌++◌, sym, ap, ◌∙◌, ◌≡◌, append-nil, subst, refl, Ok, inl}
use Rattle.dep_message.specs.Working.{IsKnownProgress, ReadsOn, bytes_with}
use Rattle.dep_message.specs.declared.progress.Progress.{Progress}
use Rattle.dep_message.specs.declared.progress.Progress.TheVariants.{First, Sized}
use Rattle.dep_message.proofs.Keeping.{keeps_found}
use Rattle.dep_message.proofs.unparsed.Unparsed.read_on.Goals as goal

pub returns-in-Chunked : goal.returns-in-Chunked
returns-in-Chunked c =
    let w = c.args.self.now in
    subst (λ (p : Progress). ReadsOn w (bytes_with p w.buffer) c.read_chunks.new.self c.read_chunks.result)
    (sym (sym c.replace.ensures.value ∙ c.in-Chunked.is)) c.read_chunks.ensures

pub read_sized-requires-clause-sized : goal.read_sized-requires-clause-sized
read_sized-requires-clause-sized c =
    let w = c.args.self.now in
    (subst (λ (p : Progress). IsKnownProgress w.limit w.continued w.buffer p) (sym c.replace.ensures.value ∙ c.in-Sized.is) c.requires).1

pub read_sized-requires-clause-apart : goal.read_sized-requires-clause-apart
read_sized-requires-clause-apart c =
    let w = c.args.self.now in
    inl (subst (λ (p : Progress). IsKnownProgress w.limit w.continued w.buffer p) (sym c.replace.ensures.value ∙ c.in-Sized.is) c.requires).0

pub returns-in-Sized : goal.returns-in-Sized
returns-in-Sized c =
    let w = c.args.self.now in
    let r = c.in-Sized.request in
    let is : w.progress ≡ Sized r = sym c.replace.ensures.value ∙ c.in-Sized.is in
    let known = subst (λ (p : Progress). IsKnownProgress w.limit w.continued w.buffer p) is c.requires in
    subst (λ (p : Progress). ReadsOn w (bytes_with p w.buffer) c.read_sized.new.self c.read_sized.result) (sym is)
    (subst (λ (l : List ℕ). ReadsOn w (r.used.items ++ l) c.read_sized.new.self c.read_sized.result)
    (ap (λ l. r.behind ++ l) known.0 ∙ append-nil r.behind) c.read_sized.ensures)

pub returns-in-Searched : goal.returns-in-Searched
returns-in-Searched c =
    let w = c.args.self.now in
    subst (λ (p : Progress). ReadsOn w (bytes_with p w.buffer) c.search.new.self c.search.result)
    (sym (sym c.replace.ensures.value ∙ c.in-Searched.is)) c.search.ensures

pub returns-in-First : goal.returns-in-First
returns-in-First c =
    let w = c.args.self.now in
    let first = c.in-First.first in
    let is : w.progress ≡ First first = sym c.replace.ensures.value ∙ c.in-First.is in
    let known = subst (λ (p : Progress). IsKnownProgress w.limit w.continued w.buffer p) is c.requires in
    subst (λ (p : Progress). ReadsOn w (bytes_with p w.buffer) c.keep_place.new.self (Ok tt)) (sym is)
    (keeps_found w c.keep_place.new.self _ first.item first.used c.keep_place.ensures refl known)
