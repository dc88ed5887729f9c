-- Shares in memory: the struct of four numbers, and an answer with the shares of its radius.
use Rattle.calculus.specs.Model as C
use Rattle.calculus.specs.Refusal as R
use Rattle.calculus.specs.Refusal.{at_place}
use Rattle.calculus.specs.Shares as S
use Rattle.calculus.specs.Shares.{no_shares, shares_of}
use Rattle.model_types.specs.declared.Shares.{Shares}
use Rattle.model_types.specs.declared.Accounted.{Accounted}
use Rattle.model_types.specs.ModelStruct.{Verdict}
use Rattle.std.specs.Prelude.{Ok, Err}
use Rattle.model_types.specs.ModelStruct.{refused_at}
use Rattle.model_types.specs.ModelStruct.{answer}

-- the struct of four shares
unfoldable pub stored_shares : S.Shares → Shares
stored_shares s = record { carried = s.carried; rounding = s.rounding; swept = s.swept; slack = s.slack }

-- an operation's answer, with the shares of what it accepts; zeros beside a refusal
unfoldable pub accounted : R.Answer C.Model → (C.Model → S.Shares) → Accounted
accounted a s = record { answer = answer (at_place 0 a); shares = stored_shares (shares_of a s) }

-- what stands beside a verdict: zeros beside a refusal
unfoldable pub unless_refused : Verdict → Shares → Shares
unless_refused (Ok u) s = s
unless_refused (Err r) s = stored_shares no_shares
