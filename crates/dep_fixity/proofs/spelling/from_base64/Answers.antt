use Rattle.std.proofs.Common.{◌≡◌, ◌∙◌, sym, ap, Ok, Some, rules, append-nil, drop, length, replicate, arith, List, ℕ, []}
use Rattle.std.proofs.lemmas.List.{drop_all, length-replicate}
use Rattle.base64.specs.Engines.{standard}
use Rattle.base64.specs.GeneralPurpose.{IsBytes, decoded_bytes_of, decode_slice_of}
use Rattle.dep_fixity.proofs.Base64.{octets_of_base64-read, octets_of_base64-refused}
use Rattle.dep_fixity.proofs.spelling.from_base64.Goals as goal
use Rattle.dep_fixity.proofs.spelling.from_base64.Goals.{in_default-via-in-Ok+else-count, in_default-via-in_default}

pub returns-in-Ok : goal.returns-in-Ok
returns-in-Ok g c =
    let text = c.args.text.now in
    let is : c.decode_slice.result ≡ Ok g.row.N = search rules in
    let value : c.decode_slice.result ≡ decode_slice_of standard text g.row.N = rw length-replicate at c.decode_slice.ensures.value in
    let found = octets_of_base64-read text g.row.N (sym value ∙ is) in
    let written = rw is at c.decode_slice.ensures.written in
    let room : List ℕ = replicate g.row.N 0 in
    let size : length room ≡ g.row.N = length-replicate g.row.N 0 in
    let none : drop (length (decoded_bytes_of standard text)) room ≡ [] = drop_all (length (decoded_bytes_of standard text)) room (omega (arith, found.1, size)) in
    let same : c.decode_slice.new.output ≡ decoded_bytes_of standard text = written ∙ rw none (append-nil _) in
    ap Some same ∙ sym found.0

pub returns-in_default : goal.returns-in_default
returns-in_default g c =
    let text = c.args.text.now in
    let small : IsBytes text = search rules in
    let value : c.decode_slice.result ≡ decode_slice_of standard text g.row.N = rw length-replicate at c.decode_slice.ensures.value in
    sym (octets_of_base64-refused text g.row.N small (λ ok. elim c.in_default.branch [
      | in_default-via-in-Ok+else-count w ↦
          let same = sym w.in-Ok.is ∙ value ∙ ok in
          w.if-count.false (cc same)
      | in_default-via-in_default w ↦ w.in_default.not-Ok _ (value ∙ ok)
    ]))
