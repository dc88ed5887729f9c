-- Integrals at the edges: ends, q and r of single calls, with every even monomial of degree at most 15 among them.
use Rattle.std.specs.Prelude.{◌≡◌, refl, List, [], ◌∷◌, map, ℕ, pos}
use Rattle.calculus.specs.Model.{Model}
use Rattle.calculus.specs.Refusal.{Result, done}
use Rattle.calculus.specs.Operations.{Ends, Mixed, Integral, integral_sum, term_by_term}
use Rattle.calculus.specs.Calls.{call_integral}
use Rattle.calculus.specs.Book.{run, returned_summary}
use Rattle.calculus.specs.Computing.{calls}
use Rattle.calculus.specs.Forms.{at_key, at_long_key, model, book, ends, minus, mixed, forms}
use Rattle.calculus.specs.Edges.{one_term, one_long_term, terms_from}
use Rattle.calculus.specs.CallEdges.{back}

-- a row of the table: a model, and what its integral must be
pub record IntegralEdge : Type 0 where
  pub model : Model
  pub result : Result Integral

-- ---- short forms
-- such a row
unfoldable pub integrates : Model → Ends → Mixed → IntegralEdge
integrates m e x = record { model = m; result = done (record { ends = e; exact = x }) }

-- the coefficient 1 at each key of four variables
unfoldable pub ones : List ℕ → Model
ones keys = model 4 0 (map (λ key. at_key 4 key (pos 1)) keys)

-- ---- the table
unfoldable pub integral_edges : List IntegralEdge
integral_edges =
    -- -x^2 alone: -2/3 is rounded down, and not toward 0
    integrates (one_term 1 0x2000 (minus 1)) (ends (minus 1) (pos 0)) (mixed (minus 1) 70945875)
    -- r is 0: the ends meet, on both sides of 0
    ∷ integrates (one_term 1 0x2000 (pos 3)) (ends (pos 2) (pos 2)) (mixed (pos 2) 0)
    ∷ integrates (one_term 1 0x2000 (minus 3)) (ends (minus 2) (minus 2)) (mixed (minus 2) 0)
    -- the sum is rounded once, and not each term: x^2 + x^4 and x^2 - x^4 give 16/15 and 4/15
    ∷ integrates (model 1 0 (at_key 1 0x2000 (pos 1) ∷ at_key 1 0x4000 (pos 1) ∷ []))
    (ends (pos 1) (pos 2)) (mixed (pos 1) 14189175)
    ∷ integrates (model 1 0 (at_key 1 0x2000 (pos 1) ∷ at_key 1 0x4000 (minus 1) ∷ []))
    (ends (pos 0) (pos 1)) (mixed (pos 0) 56756700)
    -- two thirds twice, in two variables: 4/3 + 4/3
    ∷ integrates (model 2 0 (at_key 2 0x0200 (pos 1) ∷ at_key 2 0x2000 (pos 1) ∷ []))
    (ends (pos 2) (pos 3)) (mixed (pos 2) 141891750)
    -- odd terms only
    ∷ integrates (model 2 0 (at_key 2 0x0100 (pos 7) ∷ at_key 2 0x1100 (minus 5) ∷ at_key 2 0x1200 (pos 3) ∷ []))
    (ends (pos 0) (pos 0)) (mixed (pos 0) 0)
    -- a radius only: 2^n × e on both sides
    ∷ integrates (model 2 5 []) (ends (minus 20) (pos 20)) (mixed (pos 0) 0)
    ∷ integrates (model 4 1 []) (ends (minus 16) (pos 16)) (mixed (pos 0) 0)
    -- a radius beside a remainder: one more above, none below
    ∷ integrates (model 1 2 (at_key 1 0x0000 (pos 1) ∷ at_key 1 0x2000 (pos 1) ∷ []))
    (ends (minus 2) (pos 7)) (mixed (pos 2) 141891750)
    -- the largest remainder
    ∷ integrates (model 4 0 (at_key 4 0x4442 (pos 117) ∷ at_key 4 0x6620 (pos 47) ∷ at_key 4 0x8222 (pos 431)
    ∷ at_key 4 0xA400 (pos 3) ∷ at_key 4 0xC200 (pos 4) ∷ []))
    (ends (pos 40) (pos 41)) (mixed (pos 40) 212837624)
    -- the largest integral
    ∷ integrates (model 4 0 (at_key 4 0x0000 (pos 1073741824) ∷ []))
    (ends (pos 17179869184) (pos 17179869184)) (mixed (pos 17179869184) 0)
    ∷ integrates (model 4 1073741823 (at_key 4 0x0000 (minus 1) ∷ []))
    (ends (minus 17179869184) (pos 17179869152)) (mixed (minus 16) 0)
    -- above four variables each term is rounded by itself, and q and r are 0: -32/3; 32/3 + 32/3; radii
    ∷ integrates (one_long_term 5 0x20000000 (minus 1)) (ends (minus 11) (minus 10)) (mixed (pos 0) 0)
    ∷ integrates (model 5 0 (at_long_key 5 0x02000000 (pos 1) ∷ at_long_key 5 0x20000000 (pos 1) ∷ []))
    (ends (pos 20) (pos 22)) (mixed (pos 0) 0)
    ∷ integrates (model 8 1 (at_long_key 8 0x00000002 (pos 3) ∷ [])) (ends (pos 0) (pos 512)) (mixed (pos 0) 0)
    ∷ integrates (model 8 1073741823 (at_long_key 8 0x00000000 (pos 1) ∷ []))
    (ends (minus 274877906432) (pos 274877906944)) (mixed (pos 0) 0)
    -- x5^2 x8^2 and its negative: 256/9; beside x5^2: 28 + 85 and 29 + 86, where the sum would give 113 and 114
    ∷ integrates (one_long_term 8 0x00002002 (pos 1)) (ends (pos 28) (pos 29)) (mixed (pos 0) 0)
    ∷ integrates (one_long_term 8 0x00002002 (minus 1)) (ends (minus 29) (minus 28)) (mixed (pos 0) 0)
    ∷ integrates (model 8 0 (at_long_key 8 0x00002000 (pos 1) ∷ at_long_key 8 0x00002002 (pos 1) ∷ []))
    (ends (pos 113) (pos 115)) (mixed (pos 0) 0)
    -- an odd exponent of the last variable
    ∷ integrates (one_long_term 8 0x00002001 (pos 7)) (ends (pos 0) (pos 0)) (mixed (pos 0) 0)
    -- all 330 even monomials of degree at most 15 in four variables
    ∷ integrates
    (ones (0x0000 ∷ 0x0002 ∷ 0x0004 ∷ 0x0006 ∷ 0x0008 ∷ 0x000A ∷ 0x000C ∷ 0x000E ∷ 0x0020 ∷ 0x0022 ∷ 0x0024 ∷
    0x0026 ∷ 0x0028 ∷ 0x002A ∷ 0x002C ∷ 0x0040 ∷ 0x0042 ∷ 0x0044 ∷ 0x0046 ∷ 0x0048 ∷ 0x004A ∷ 0x0060 ∷ 0x0062 ∷
    0x0064 ∷ 0x0066 ∷ 0x0068 ∷ 0x0080 ∷ 0x0082 ∷ 0x0084 ∷ 0x0086 ∷ 0x00A0 ∷ 0x00A2 ∷ 0x00A4 ∷ 0x00C0 ∷ 0x00C2 ∷
    0x00E0 ∷ 0x0200 ∷ 0x0202 ∷ 0x0204 ∷ 0x0206 ∷ 0x0208 ∷ 0x020A ∷ 0x020C ∷ 0x0220 ∷ 0x0222 ∷ 0x0224 ∷ 0x0226 ∷
    0x0228 ∷ 0x022A ∷ 0x0240 ∷ 0x0242 ∷ 0x0244 ∷ 0x0246 ∷ 0x0248 ∷ 0x0260 ∷ []))
    (ends (pos 77) (pos 78)) (mixed (pos 77) 47759115)
    ∷ integrates
    (ones (0x0262 ∷ 0x0264 ∷ 0x0266 ∷ 0x0280 ∷ 0x0282 ∷ 0x0284 ∷ 0x02A0 ∷ 0x02A2 ∷ 0x02C0 ∷ 0x0400 ∷ 0x0402 ∷
    0x0404 ∷ 0x0406 ∷ 0x0408 ∷ 0x040A ∷ 0x0420 ∷ 0x0422 ∷ 0x0424 ∷ 0x0426 ∷ 0x0428 ∷ 0x0440 ∷ 0x0442 ∷ 0x0444 ∷
    0x0446 ∷ 0x0460 ∷ 0x0462 ∷ 0x0464 ∷ 0x0480 ∷ 0x0482 ∷ 0x04A0 ∷ 0x0600 ∷ 0x0602 ∷ 0x0604 ∷ 0x0606 ∷ 0x0608 ∷
    0x0620 ∷ 0x0622 ∷ 0x0624 ∷ 0x0626 ∷ 0x0640 ∷ 0x0642 ∷ 0x0644 ∷ 0x0660 ∷ 0x0662 ∷ 0x0680 ∷ 0x0800 ∷ 0x0802 ∷
    0x0804 ∷ 0x0806 ∷ 0x0820 ∷ 0x0822 ∷ 0x0824 ∷ 0x0840 ∷ 0x0842 ∷ 0x0860 ∷ []))
    (ends (pos 24) (pos 25)) (mixed (pos 24) 64961016)
    ∷ integrates
    (ones (0x0A00 ∷ 0x0A02 ∷ 0x0A04 ∷ 0x0A20 ∷ 0x0A22 ∷ 0x0A40 ∷ 0x0C00 ∷ 0x0C02 ∷ 0x0C20 ∷ 0x0E00 ∷ 0x2000 ∷
    0x2002 ∷ 0x2004 ∷ 0x2006 ∷ 0x2008 ∷ 0x200A ∷ 0x200C ∷ 0x2020 ∷ 0x2022 ∷ 0x2024 ∷ 0x2026 ∷ 0x2028 ∷ 0x202A ∷
    0x2040 ∷ 0x2042 ∷ 0x2044 ∷ 0x2046 ∷ 0x2048 ∷ 0x2060 ∷ 0x2062 ∷ 0x2064 ∷ 0x2066 ∷ 0x2080 ∷ 0x2082 ∷ 0x2084 ∷
    0x20A0 ∷ 0x20A2 ∷ 0x20C0 ∷ 0x2200 ∷ 0x2202 ∷ 0x2204 ∷ 0x2206 ∷ 0x2208 ∷ 0x220A ∷ 0x2220 ∷ 0x2222 ∷ 0x2224 ∷
    0x2226 ∷ 0x2228 ∷ 0x2240 ∷ 0x2242 ∷ 0x2244 ∷ 0x2246 ∷ 0x2260 ∷ 0x2262 ∷ []))
    (ends (pos 30) (pos 31)) (mixed (pos 30) 113601730)
    ∷ integrates
    (ones (0x2264 ∷ 0x2280 ∷ 0x2282 ∷ 0x22A0 ∷ 0x2400 ∷ 0x2402 ∷ 0x2404 ∷ 0x2406 ∷ 0x2408 ∷ 0x2420 ∷ 0x2422 ∷
    0x2424 ∷ 0x2426 ∷ 0x2440 ∷ 0x2442 ∷ 0x2444 ∷ 0x2460 ∷ 0x2462 ∷ 0x2480 ∷ 0x2600 ∷ 0x2602 ∷ 0x2604 ∷ 0x2606 ∷
    0x2620 ∷ 0x2622 ∷ 0x2624 ∷ 0x2640 ∷ 0x2642 ∷ 0x2660 ∷ 0x2800 ∷ 0x2802 ∷ 0x2804 ∷ 0x2820 ∷ 0x2822 ∷ 0x2840 ∷
    0x2A00 ∷ 0x2A02 ∷ 0x2A20 ∷ 0x2C00 ∷ 0x4000 ∷ 0x4002 ∷ 0x4004 ∷ 0x4006 ∷ 0x4008 ∷ 0x400A ∷ 0x4020 ∷ 0x4022 ∷
    0x4024 ∷ 0x4026 ∷ 0x4028 ∷ 0x4040 ∷ 0x4042 ∷ 0x4044 ∷ 0x4046 ∷ 0x4060 ∷ []))
    (ends (pos 17) (pos 18)) (mixed (pos 17) 119415143)
    ∷ integrates
    (ones (0x4062 ∷ 0x4064 ∷ 0x4080 ∷ 0x4082 ∷ 0x40A0 ∷ 0x4200 ∷ 0x4202 ∷ 0x4204 ∷ 0x4206 ∷ 0x4208 ∷ 0x4220 ∷
    0x4222 ∷ 0x4224 ∷ 0x4226 ∷ 0x4240 ∷ 0x4242 ∷ 0x4244 ∷ 0x4260 ∷ 0x4262 ∷ 0x4280 ∷ 0x4400 ∷ 0x4402 ∷ 0x4404 ∷
    0x4406 ∷ 0x4420 ∷ 0x4422 ∷ 0x4424 ∷ 0x4440 ∷ 0x4442 ∷ 0x4460 ∷ 0x4600 ∷ 0x4602 ∷ 0x4604 ∷ 0x4620 ∷ 0x4622 ∷
    0x4640 ∷ 0x4800 ∷ 0x4802 ∷ 0x4820 ∷ 0x4A00 ∷ 0x6000 ∷ 0x6002 ∷ 0x6004 ∷ 0x6006 ∷ 0x6008 ∷ 0x6020 ∷ 0x6022 ∷
    0x6024 ∷ 0x6026 ∷ 0x6040 ∷ 0x6042 ∷ 0x6044 ∷ 0x6060 ∷ 0x6062 ∷ 0x6080 ∷ []))
    (ends (pos 14) (pos 15)) (mixed (pos 14) 96566418)
    ∷ integrates
    (ones (0x6200 ∷ 0x6202 ∷ 0x6204 ∷ 0x6206 ∷ 0x6220 ∷ 0x6222 ∷ 0x6224 ∷ 0x6240 ∷ 0x6242 ∷ 0x6260 ∷ 0x6400 ∷
    0x6402 ∷ 0x6404 ∷ 0x6420 ∷ 0x6422 ∷ 0x6440 ∷ 0x6600 ∷ 0x6602 ∷ 0x6620 ∷ 0x6800 ∷ 0x8000 ∷ 0x8002 ∷ 0x8004 ∷
    0x8006 ∷ 0x8020 ∷ 0x8022 ∷ 0x8024 ∷ 0x8040 ∷ 0x8042 ∷ 0x8060 ∷ 0x8200 ∷ 0x8202 ∷ 0x8204 ∷ 0x8220 ∷ 0x8222 ∷
    0x8240 ∷ 0x8400 ∷ 0x8402 ∷ 0x8420 ∷ 0x8600 ∷ 0xA000 ∷ 0xA002 ∷ 0xA004 ∷ 0xA020 ∷ 0xA022 ∷ 0xA040 ∷ 0xA200 ∷
    0xA202 ∷ 0xA220 ∷ 0xA400 ∷ 0xC000 ∷ 0xC002 ∷ 0xC020 ∷ 0xC200 ∷ 0xE000 ∷ []))
    (ends (pos 18) (pos 19)) (mixed (pos 18) 68282830)
    ∷ []

-- each call gives what its row says
pub integral_edges_hold : map (λ r. call_integral r.model) integral_edges ≡ map (λ r. r.result) integral_edges
unfolding calls forms one_term one_long_term integrates ones integral_edges
integral_edges_hold = refl

-- ---- a refused run
-- both are 0, beside the zero model and the ends 0
pub refused_run_hands_back : returned_summary (run (book 1 1 [] []))
    ≡ back 3 0 (record {
      model = model 1 0 [];
      range = ends (pos 0) (pos 0);
      integral = ends (pos 0) (pos 0);
      exact = mixed (pos 0) 0;
    })
unfolding calls forms back returned_summary
refused_run_hands_back = refl

-- ---- the term-by-term rule
-- sample 1; -x^2; x^2 + x^4 and its negative, each term rounded by itself; a radius; 64 terms in two variables
pub term_by_term_stands : map term_by_term
    (model 1 0 (at_key 1 0x0000 (pos 262144) ∷ at_key 1 0x1000 (pos 1048576) ∷ at_key 1 0x2000 (pos 1048576) ∷ [])
    ∷ one_term 1 0x2000 (minus 1)
    ∷ model 1 2 (at_key 1 0x2000 (pos 1) ∷ at_key 1 0x4000 (pos 1) ∷ [])
    ∷ model 1 0 (at_key 1 0x2000 (minus 1) ∷ at_key 1 0x4000 (minus 1) ∷ [])
    ∷ model 2 5 []
    ∷ model 2 0 (terms_from 1 64 (pos 1)) ∷ [])
    ≡ ends (pos 1223338) (pos 1223339) ∷ ends (minus 1) (pos 0) ∷ ends (minus 4) (pos 6) ∷ ends (minus 2) (pos 0)
    ∷ ends (minus 20) (pos 20) ∷ ends (pos 2) (pos 18) ∷ []
unfolding calls forms one_term terms_from integral_sum term_by_term
term_by_term_stands = refl
