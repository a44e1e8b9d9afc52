use Rattle.std.proofs.Common.{◌≡◌, List, ℕ, ◌∙◌, ◌++◌, sym, ap, subst, refl}
use Rattle.dep_body.specs.Feeding.{ShowsFault}
use Rattle.dep_message.specs.Heads.{is_head_only}
use Rattle.dep_message.specs.Stream.{IsRequestText, frame_refusal}
use Rattle.dep_message.specs.Working.{KeepsBytes, ReadsChunks, first_found}
use Rattle.dep_message.specs.declared.message.Message.{Message}
use Rattle.dep_message.specs.declared.progress.Found.TheVariants as F
use Rattle.dep_message.specs.declared.progress.Progress.TheVariants.{Chunked}
use Rattle.dep_message.specs.declared.unparsed.Unparsed.{Unparsed}
use Rattle.dep_message.proofs.Chunks.{used_bytes, part_now, waits_on, chunks_text, chunks_whole, faulty_now, reads_on}
use Rattle.dep_message.proofs.Keeping.{keeps_chunked, keeps_found, keeps_request, keeps_used}
use Rattle.dep_message.proofs.unparsed.Unparsed.read_chunks.Goals as goal
use Rattle.dep_message.proofs.unparsed.Unparsed.read_chunks.Goals.{in-Bad, in-TooLarge}

pub returns-in-Err : goal.returns-in-Err
returns-in-Err c =
    let w = c.args.self.now in
    let r = c.args.request in
    let on : ReadsChunks w.limit w.continued (record r { reader = c.feed.new.self }) = rw c.in-Err.ensures.err c.requires.known in (
      subst (λ (new : Unparsed). KeepsBytes w.limit w.continued (r.used.items ++ w.buffer) new) (sym c.keep_place.ensures) (keeps_chunked w _ on),
      used_bytes w.limit w.continued r w.buffer c.requires.known,
    )

pub returns-in-More : goal.returns-in-More
returns-in-More c =
    let w = c.args.self.now in
    let r = c.args.request in
    let piece = c.as_slice-bytes.result.now in
    let reads = c.requires.known in
    let fed = c.in-Ok.ensures in
    let same = c.as_slice-bytes.ensures in
    let reported = rw c.in-More.is at (fed.reported reads.fed reads.has_fed) in
    let part = part_now w.limit w.continued r piece w.buffer reads same c.feed.new.self.limit c.feed.new.self.content (fed.limit ∙ reads.limit_is) reported in
    let on = reads_on w.limit w.continued r piece c.feed.new.self c.and-request.result reads c.and-request.ensures fed.limit (fed.fed reads.fed reads.has_fed) part in
    let all = c.and-request.ensures ∙ ap (λ l. r.used.items ++ l) same in
    let new_is = c.keep_place-in-More.ensures ∙ ap (λ (b : List ℕ). record w { buffer = b; progress = Chunked (record r { reader = c.feed.new.self; used = c.and-request.result }) }) c.clear.ensures in (
      subst (λ (new : Unparsed). KeepsBytes w.limit w.continued (r.used.items ++ w.buffer) new) (sym new_is) (keeps_used w _ (r.used.items ++ w.buffer) on all),
      rw (ap (λ w. w.progress) new_is) (waits_on w.limit w.continued r piece w.buffer reads same c.feed.new.self.limit c.feed.new.self.content (fed.limit ∙ reads.limit_is) reported),
    )

pub returns-in-Done : goal.returns-in-Done
returns-in-Done c =
    let w = c.args.self.now in
    let r = c.args.request in
    let piece = c.as_slice-bytes.result.now in
    let count = c.in-Done.count in
    let reads = c.requires.known in
    let fed = c.in-Ok.ensures in
    let same = c.as_slice-bytes.ensures in
    let read = c.feed.new.self in
    let used = c.and-used.result in
    let reported = rw c.in-Done.is at (fed.reported reads.fed reads.has_fed) in
    let m : Message = record { head = r.head; content = c.content.result } in
    keeps_request w c.keep_found.new.self (r.used.items ++ w.buffer) used count m
    (c.keep_found.ensures ∙ ap (λ (b : List ℕ). record w { buffer = b; progress = first_found (F.Message m) used }) c.drop_front.ensures.rest)
    (chunks_whole w.limit w.continued r piece w.buffer reads same read.limit read.content (fed.limit ∙ reads.limit_is) count used c.and-used.ensures)
    (subst (λ (l : List ℕ). IsRequestText w.limit w.continued used.items (record { head = r.head; content = l })) (sym c.content.ensures)
    (chunks_text w.limit w.continued r piece w.buffer reads same read.limit read.content (fed.limit ∙ reads.limit_is) count used reported c.and-used.ensures))

pub returns : goal.returns
returns c =
    let w = c.args.self.now in
    let r = c.args.request in
    let reads = c.requires.known in
    let fed = c.in-Ok.ensures in
    let piece = c.as_slice-bytes.result.now in
    let new = c.feed.new.self in
    let reported = fed.reported reads.fed reads.has_fed in
    let shown : (c.match-fed.self ≡ w) × ShowsFault new.limit new.content reads.fed piece c.match-fed.fault =
    elim c.match-fed.branch as (λ _. (c.match-fed.self ≡ w) × ShowsFault new.limit new.content reads.fed piece c.match-fed.fault) [
      | in-Bad t ↦ (t.self-is, subst (ShowsFault new.limit new.content reads.fed piece) (sym t.fault-is) (rw t.in-Bad.is at reported))
      | in-TooLarge t ↦ (t.self-is, subst (ShowsFault new.limit new.content reads.fed piece) (sym t.fault-is) (rw t.in-TooLarge.is at reported))
    ] in
    keeps_found w c.keep_found-2.new.self (r.used.items ++ w.buffer) (F.Fault (frame_refusal c.match-fed.fault) (is_head_only r.head)) r.used
    (c.keep_found-2.ensures
    ∙ (λ i. record (shown.0 i) { progress = first_found (F.Fault (c.refusal_for.ensures i) (c.is_without_body.ensures i)) r.used })) refl
    (faulty_now w.limit w.continued r piece w.buffer reads c.as_slice-bytes.ensures new.limit new.content (fed.limit ∙ reads.limit_is) c.match-fed.fault shown.1)
