-- `store` stores the terms, then the numbers of an accepted answer or of a refused one.
use Rattle.c_products.specs.StoredLaws.{stored_accepted, stored_refused}
use Rattle.c_products.proofs.store.Goals as goal

pub returns-in-Ok : goal.returns-in-Ok
returns-in-Ok c =
    let p = c.store_kept.ensures c.args.n in
    stored_accepted _ _ _ _ _ _ _ _ c.args.numbers.now _ p.0 p.1 c.requires.kept_ready c.in-Ok.is
    c.store_numbers.ensures

pub returns-in-Err : goal.returns-in-Err
returns-in-Err c =
    let p = c.store_kept.ensures c.args.n in
    stored_refused _ _ _ _ _ _ _ _ c.args.numbers.now _ p.0 p.1 _ _ _ c.in-Err.is c.number.ensures
    c.store_numbers-in-Err.ensures
