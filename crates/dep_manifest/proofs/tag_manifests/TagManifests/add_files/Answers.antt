use Rattle.std.proofs.Common.{codes}
use Rattle.std.proofs.lemmas.Result.{on_ok_weaker}
use Rattle.dep_docs_out.specs.Documents.{bag_metadata_document}
use Rattle.dep_manifest.specs.Manifest.{digest_by}
use Rattle.dep_manifest.specs.declared.algorithm.Algorithm.TheVariants.{Sha256, Sha512}
use Rattle.dep_manifest.specs.TagFiles.{bagit_text, manifest_path}
use Rattle.dep_manifest.specs.Reported.{reported_info, reported_manifest, text_by}
use Rattle.dep_manifest.proofs.FiveLines.{five_lines}
use Rattle.dep_manifest.proofs.tag_manifests.TagManifests.add_files.Goals as goal

pub returns : goal.returns
returns c =
    let view = c.args.view.now in
    let metadata = bag_metadata_document view.metadata in
    on_ok_weaker c.add_file-5.result
    (λ last a. five_lines (digest_by a)
    (codes "bagit.txt", bagit_text) (codes "bag-info.txt", reported_info view)
    (manifest_path Sha256, reported_manifest Sha256 view) (manifest_path Sha512, reported_manifest Sha512 view) (codes "metadata/sword.json", metadata)
    (text_by a c.args.self.now)
    (text_by a c.add_file.new.self) (text_by a c.add_file-2.new.self) (text_by a c.add_file-3.new.self) (text_by a c.add_file-4.new.self) (text_by a c.add_file-5.new.self)
    (c.in_ok-add_file.ensures bagit_text c.declaration.ensures a)
    (c.in_ok-add_file-2.ensures (reported_info view) c.information.ensures a)
    (c.in_ok-add_file-3.ensures (reported_manifest Sha256 view) c.payload_manifest.ensures a)
    (c.in_ok-add_file-4.ensures (reported_manifest Sha512 view) c.payload_manifest-2.ensures a)
    (last a))
    (c.add_file-5.ensures metadata c.bag_metadata_doc.ensures)
