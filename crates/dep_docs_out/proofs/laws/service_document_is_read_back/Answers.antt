use Rattle.std.proofs.Common.{◌≡◌, ◌^◌, true, codes, refl, arith, lt-ltb}
use Rattle.dep_types.specs.declared.config.Config.{Config}
use Rattle.dep_types.specs.Config.{HasLimits}
use Rattle.dep_docs_out.specs.Documents.{url, service_data, service_offers, service_limits, service_places}
use Rattle.dep_docs_out.proofs.ReadingBack.{is_plain}
use Rattle.dep_docs_out.proofs.Utf8.{is_text}
use Rattle.dep_docs_out.proofs.PartsReadBack.{ascii, reads, url_utf8}
use Rattle.dep_docs_out.proofs.laws.service_document_is_read_back.Goals as goal

plain : (config : Config) → HasLimits config → is_plain (service_data config) 2 ≡ true
unfolding service_data service_offers service_limits service_places
plain config limits = rw (
  lt-ltb config.max_assembled (2 ^ 64) (omega (arith, limits.assembled.most)),
  lt-ltb config.max_segments (2 ^ 64) (omega (arith, limits.segments.most)),
  lt-ltb config.max_upload (2 ^ 64) (omega (arith, limits.upload.most)),
  lt-ltb config.staging_max_idle (2 ^ 64) (omega (arith, limits.idle.most)),
) refl

pub returns : goal.returns
unfolding service_data service_offers service_limits service_places
returns c = λ config texts limits.
    let root = is_text (url config (codes "/service")) (url_utf8 config (codes "/service") texts.base (ascii _ refl)) in
    let staging = is_text (url config (codes "/staging")) (url_utf8 config (codes "/staging") texts.base (ascii _ refl)) in
    let title = is_text config.title texts.title in
    let abstract_text = is_text config.abstract_text texts.abstract_text in
    reads (service_data config) 2 (omega arith) (plain config limits) (
      tt,
      tt,
      (
        tt,
        root,
        (
          tt,
          tt,
          (
            tt,
            (tt, tt),
            (
              tt,
              tt,
              (
                tt,
                (tt, tt),
                (
                  tt,
                  (tt, tt),
                  (
                    tt,
                    tt,
                    (
                      tt,
                      title,
                      (
                        tt,
                        abstract_text,
                        (
                          tt,
                          (tt, (tt, tt)),
                          (
                            tt,
                            tt,
                            (
                              tt,
                              tt,
                              (
                                tt,
                                tt,
                                (
                                  tt,
                                  tt,
                                  (tt, root, (tt, staging, (tt, tt, (tt, tt, tt)))),
                                ),
                              ),
                            ),
                          ),
                        ),
                      ),
                    ),
                  ),
                ),
              ),
            ),
          ),
        ),
      ),
    )
