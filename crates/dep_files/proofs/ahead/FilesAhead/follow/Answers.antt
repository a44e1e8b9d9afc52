use Rattle.std.proofs.Common.{◌≡◌, ◌∙◌, ℕ, length, take, Option, IfSome, ap, sym, subst}
use Rattle.std.specs.FinMap as finmap
use Rattle.sha2.specs.Sha512.{sha512}
use Rattle.dep_types.specs.Maps.{Numbered}
use Rattle.dep_types.specs.State.{File}
use Rattle.dep_types.specs.Rows.{file_row}
use Rattle.dep_row_maps.specs.ReadLaws.{file_rows}
use Rattle.dep_files.specs.Ahead.{AreFilesSoFar}
use Rattle.dep_files.specs.Held.{IsReadPart}
use Rattle.dep_files.specs.declared.ahead.ReadFiles.{ReadFiles}
use Rattle.dep_files.specs.declared.held.ReadPart.{ReadPart}
use Rattle.dep_files.proofs.AheadFiles.{files_are, first_still, held_part, its_object}
use Rattle.dep_files.proofs.ahead.FilesAhead.follow.Goals as goal

pub returns-clause-followed : goal.returns-clause-followed
returns-clause-followed c s t sound are has_before has_after adds =
    let n = c.args.before.now.object in
    let read = c.take-read.result in
    let before = its_object s c.args.before.now has_before in
    let same : n ≡ c.args.after.now.object = c.if-before-after.false in
    let its = subst (λ (files : Numbered File). AreFilesSoFar n files read) (files_are s n before.0 before.1.0) (c.take-read.ensures.taken s has_before are) in
    subst (λ (x : Option (ReadPart ReadFiles)). IfSome x (IsReadPart (λ k o r. AreFilesSoFar k o.files r) t)) (sym c.put.ensures)
    (held_part (λ k o r. AreFilesSoFar k o.files r) t c.args.after.now has_after _ sound (λ o there.
    let more = adds before.0 o before.1.0 (ap (finmap.get t.objects) same ∙ there) in
    let es = finmap.entries before.0.files in
    let now = finmap.entries o.files in
    record {
      rows = subst (λ (k : ℕ). read.rows.items ≡ take (length read.rows.items) (file_rows k o.files)) same
          (first_still (λ (e : ℕ × File). file_row n e.0 e.1) es more.0 now read.rows.items more.1 its.rows);
      sha512s = first_still (λ (e : ℕ × File). sha512 e.1.content) es more.0 now read.sha512s.items more.1 its.sha512s;
    }))
