-- `divide` tests what it is handed, makes the call and stores its answer.
use mathlib.Core.Path.{◌≡◌, sym, ◌∙◌, ap₂}
use lib.ListN.{length}
use Rattle.model_slices.specs.HandedModels.{model_room}
use Rattle.c_books.specs.HandedBooks.{model_places}
use Rattle.c_calls.specs.CallCodes.{called}
use Rattle.c_quotients.specs.HandedQuotients.{quotient_fits}
use Rattle.c_quotients.specs.HandedQuotientsLaws.{fits_models, fits_answer}
use Rattle.c_quotients.proofs.divide.Goals as goal
use Rattle.c_quotients.proofs.divide.Goals.{After-quotient_fits}

-- the test is of the lengths
tested : (c : After-quotient_fits) → c.quotient_fits.result
    ≡ quotient_fits (model_places (length c.args.ns.now) (length c.args.counts.now)
    (length c.args.radii.now) (length c.args.keys.now) (length c.args.coefficients.now))
    (model_room (length c.args.outkeys.now) (length c.args.outcoefficients.now)
    (length c.args.outnumbers.now))
tested c = c.quotient_fits.ensures ∙ ap₂ quotient_fits c.model_places-models.ensures c.model_room-room.ensures

pub returns-then-not-quotient_fits : goal.returns-then-not-quotient_fits
unfolding called
returns-then-not-quotient_fits c =
    rw (sym (tested (goal.at.returns-then-not-quotient_fits c).After-quotient_fits) ∙ c.if-not-quotient_fits.true)

pub handed_quotient-a-requires : goal.handed_quotient-a-requires
handed_quotient-a-requires c =
    fits_models _ _ _ _
    (sym (tested (goal.at.handed_quotient-a-requires c).After-quotient_fits) ∙ c.if-not-quotient_fits.false)

pub store_answer-requires : goal.store_answer-requires
store_answer-requires c =
    fits_answer _ _ _ _
    (sym (tested (goal.at.store_answer-requires c).After-quotient_fits) ∙ c.if-not-quotient_fits.false)

pub returns : goal.returns
unfolding called
returns c =
    rw (
      c.store_answer.ensures,
      c.handed_quotient-a.ensures,
      sym (tested (goal.at.returns c).After-quotient_fits) ∙ c.if-not-quotient_fits.false,
    )
