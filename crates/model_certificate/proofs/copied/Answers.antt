-- `copied` copies the terms into two arrays of zeros.
use borrow.Author.Rules.{rules}
use Rattle.calculus.specs.Model.{most_terms}
use Rattle.model_certificate.specs.CertificateLaws.{copied_struct}
use Rattle.model_certificate.proofs.copied.Goals as goal

pub copy_keys-requires : goal.copy_keys-requires
unfolding most_terms
copy_keys-requires c =
    (c.requires.count_in_bounds.0, c.requires.count_le_most_terms)

pub copy_coefficients-requires : goal.copy_coefficients-requires
unfolding most_terms
copy_coefficients-requires c =
    (c.requires.count_in_bounds.1, c.requires.count_le_most_terms)

pub returns : goal.returns
unfolding most_terms
returns c =
    copied_struct c.args.n c.args.count c.args.radius c.args.keys.now c.args.coefficients.now
    c.requires.count_in_bounds c.copy_keys.ensures c.copy_coefficients.ensures
