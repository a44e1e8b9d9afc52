use Rattle.dep_docs_out.specs.Documents.{bag_metadata_document}
use Rattle.dep_manifest.specs.declared.algorithm.Algorithm.TheVariants.{Sha256, Sha512}
use Rattle.dep_manifest.specs.TagFiles.{bagit_text}
use Rattle.dep_manifest.specs.Reported.{reported_info, reported_manifest}
use Rattle.dep_bag.specs.Giving.{state_of, listed_transcript}
use Rattle.dep_bag.specs.declared.export_fault.ExportFault.TheVariants.{Sink}
use Rattle.dep_bag.proofs.GivenParts.{none_given}
use Rattle.dep_bag.proofs.GivenFiles.{behind_folder, behind_info, next_given, next_fails, last_given}
use Rattle.dep_bag.proofs.giving.give_listed.Goals as goal

pub returns-in_err-folder : goal.returns-in_err-folder
returns-in_err-folder g c =
    let reported = state_of g.K.Outlet.taken g.K.Outlet.failures in
    none_given (reported c.args.sink.now) (reported c.folder.new.self) (listed_transcript c.args.view.now) c.from_residual.result Sink
    c.in_err-folder.ensures.err c.in_err-folder.ensures.cause c.from_residual.ensures.1 tt

pub returns-in_err-give_text : goal.returns-in_err-give_text
returns-in_err-give_text g c =
    let reported = state_of g.K.Outlet.taken g.K.Outlet.failures in
    let view = c.args.view.now in
    let l0 = behind_folder (reported c.args.sink.now) (reported c.folder.new.self) view c.in_ok-folder.ensures.ok c.in_ok-folder.ensures.count in
    next_fails (reported c.give_text.new.sink) c.from_residual-in_err-give_text.result c.in_err-give_text.field-0.0 l0 (c.in_err-give_text.ensures bagit_text c.declaration.ensures) c.from_residual-in_err-give_text.ensures.1

pub returns-in_err-give_text-2 : goal.returns-in_err-give_text-2
returns-in_err-give_text-2 g c =
    let reported = state_of g.K.Outlet.taken g.K.Outlet.failures in
    let view = c.args.view.now in
    let l0 = behind_folder (reported c.args.sink.now) (reported c.folder.new.self) view c.in_ok-folder.ensures.ok c.in_ok-folder.ensures.count in
    let l1 = next_given (reported c.give_text.new.sink) l0 (c.in_ok-give_text.ensures bagit_text c.declaration.ensures) in
    next_fails (reported c.give_text-2.new.sink) c.from_residual-in_err-give_text-2.result c.in_err-give_text-2.field-0.0 l1 (c.in_err-give_text-2.ensures (reported_info view) c.information.ensures) c.from_residual-in_err-give_text-2.ensures.1

pub returns-in_err-give_text-3 : goal.returns-in_err-give_text-3
returns-in_err-give_text-3 g c =
    let reported = state_of g.K.Outlet.taken g.K.Outlet.failures in
    let view = c.args.view.now in
    let l2 = behind_info (reported c.args.sink.now) (reported c.folder.new.self) (reported c.give_text.new.sink) (reported c.give_text-2.new.sink) view c.in_ok-folder.ensures.ok c.in_ok-folder.ensures.count
    (c.in_ok-give_text.ensures bagit_text c.declaration.ensures) (c.in_ok-give_text-2.ensures (reported_info view) c.information.ensures) in
    next_fails (reported c.give_text-3.new.sink) c.from_residual-in_err-give_text-3.result c.in_err-give_text-3.field-0.0 l2 (c.in_err-give_text-3.ensures (reported_manifest Sha256 view) c.payload_manifest.ensures) c.from_residual-in_err-give_text-3.ensures.1

pub returns-in_err-give_text-4 : goal.returns-in_err-give_text-4
returns-in_err-give_text-4 g c =
    let reported = state_of g.K.Outlet.taken g.K.Outlet.failures in
    let view = c.args.view.now in
    let l2 = behind_info (reported c.args.sink.now) (reported c.folder.new.self) (reported c.give_text.new.sink) (reported c.give_text-2.new.sink) view c.in_ok-folder.ensures.ok c.in_ok-folder.ensures.count
    (c.in_ok-give_text.ensures bagit_text c.declaration.ensures) (c.in_ok-give_text-2.ensures (reported_info view) c.information.ensures) in
    let l3 = next_given (reported c.give_text-3.new.sink) l2 (c.in_ok-give_text-3.ensures (reported_manifest Sha256 view) c.payload_manifest.ensures) in
    next_fails (reported c.give_text-4.new.sink) c.from_residual-in_err-give_text-4.result c.in_err-give_text-4.field-0.0 l3 (c.in_err-give_text-4.ensures (reported_manifest Sha512 view) c.payload_manifest-2.ensures) c.from_residual-in_err-give_text-4.ensures.1

pub returns : goal.returns
returns g c =
    let reported = state_of g.K.Outlet.taken g.K.Outlet.failures in
    let view = c.args.view.now in
    let l2 = behind_info (reported c.args.sink.now) (reported c.folder.new.self) (reported c.give_text.new.sink) (reported c.give_text-2.new.sink) view c.in_ok-folder.ensures.ok c.in_ok-folder.ensures.count
    (c.in_ok-give_text.ensures bagit_text c.declaration.ensures) (c.in_ok-give_text-2.ensures (reported_info view) c.information.ensures) in
    let l3 = next_given (reported c.give_text-3.new.sink) l2 (c.in_ok-give_text-3.ensures (reported_manifest Sha256 view) c.payload_manifest.ensures) in
    let l4 = next_given (reported c.give_text-4.new.sink) l3 (c.in_ok-give_text-4.ensures (reported_manifest Sha512 view) c.payload_manifest-2.ensures) in
    last_given (reported c.give_text-5.new.sink) c.give_text-5.result l4 (c.give_text-5.ensures (bag_metadata_document view.metadata) c.bag_metadata_doc.ensures)
