-- Named lists of definitions: a fact that computes opens all of them by `unfolding` one name.
use Rattle.calculus.specs.Key as K
use Rattle.calculus.specs.Refusal as R
use Rattle.calculus.specs.Computing as C
use Rattle.format.specs.Bytes as B
use Rattle.format.specs.HeldBook as H
use Rattle.format.specs.Format as F
use Rattle.format.specs.Lines as L

-- reading, running and stepping through a sheet
unfoldable pub reads : Unit {0}
unfolding
    C.runs R.number R.returned K.fits_digits K.monomial_of
    B.join B.u16 B.u32 B.signed
    H.view_held_term H.view_model H.forms H.step_of H.view_step H.view_steps H.view_book
    H.outline H.held_model_sound H.held_step_sound
    F.short_keys F.key_length F.term_length F.read_key F.mark_of F.trailer_sound
    F.read_term F.read_terms F.read_model F.model_length F.read_models F.read_step F.read_steps
    F.trailer_of F.read_trailer F.shortest F.longest F.read_records F.read F.returned_book F.run_sheet
    F.model_records F.step_records F.records F.opened
reads = tt

-- writing
unfoldable pub writes : Unit {0}
unfolding
    reads
    B.u16_bytes B.u32_bytes B.bits
    H.outline_of H.held_tested
    F.key_bytes F.term_bytes F.model_bytes F.step_bytes F.models_bytes F.trailer_bytes F.sheet_bytes F.write F.written
writes = tt

-- the lines of text
unfoldable pub prints : Unit {0}
unfolding
    reads
    L.text L.digits L.decimal L.signed_decimal L.line L.term_line L.ends_line L.exact_line L.exact_lines
    L.radius_line L.refusal_line L.lines L.printed
prints = tt
