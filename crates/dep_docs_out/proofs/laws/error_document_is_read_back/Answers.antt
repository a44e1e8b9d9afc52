use Rattle.std.proofs.Common.{refl, arith, ◌++◌, decimal, codes}
use Rattle.std.proofs.lemmas.Str.{IsUtf8-append, IsUtf8-from_ascii}
use Rattle.dep_moment.specs.Civil.{rfc3339_text}
use Rattle.dep_moment.proofs.Ascii.{rfc3339-ascii}
use Rattle.dep_types.specs.Refusals.{facts_of}
use Rattle.dep_docs_out.specs.Documents.{error_data}
use Rattle.dep_docs_out.proofs.Utf8.{decimal_utf8, is_text}
use Rattle.dep_docs_out.proofs.PartsReadBack.{ascii, reads, name_text, words_text}
use Rattle.dep_docs_out.proofs.laws.error_document_is_read_back.Goals as goal

pub returns : goal.returns
unfolding error_data
returns c = λ refusal clock past.
    let number = decimal (facts_of refusal).number in
    let log = is_text (codes "refusal " ++ number) (IsUtf8-append (codes "refusal ") number (ascii _ refl) (decimal_utf8 (facts_of refusal).number)) in
    let moment = is_text (rfc3339_text clock) (IsUtf8-from_ascii (rfc3339_text clock) (rfc3339-ascii clock past)) in
    reads (error_data refusal clock) 1 (omega arith) refl (tt, tt, (tt, name_text refusal, (tt, words_text refusal, (tt, log, (tt, moment, tt)))))
