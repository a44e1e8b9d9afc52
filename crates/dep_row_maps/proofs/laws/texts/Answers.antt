use Rattle.dep_row_maps.proofs.PickedTexts.{last_text_read, texts_page_read}
use Rattle.dep_row_maps.proofs.Readings.{texts_read}
use Rattle.dep_row_maps.proofs.Whole.{text_added, texts_added, texts_cleared, texts_replaced, texts_set, texts_grouped}
use Rattle.dep_row_maps.proofs.laws.texts.Goals as goal

pub returns : goal.returns
returns c = record { added = text_added; all_added = texts_added; cleared = texts_cleared; replaced = texts_replaced; set_all = texts_set; read = texts_read; grouped = texts_grouped; page_read = texts_page_read; last_read = last_text_read }
