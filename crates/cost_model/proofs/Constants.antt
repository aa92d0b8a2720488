-- The constants of the code, from their patterns.
use mathlib.Core.Path.{◌≡◌, refl}
use lib.Ieee.{Float, binary64, of_bits, neg}
use Rattle.cost_model.specs.Costs.{zero, one, ten_thousand, sign}
use mathlib.Core.Bool.{false}

pub zero_is : of_bits binary64 0 ≡ zero
unfolding of_bits
zero_is = refl

pub one_is : of_bits binary64 4607182418800017408 ≡ one
unfolding of_bits
one_is = refl

pub minus_one_is : neg one ≡ sign false
unfolding neg
minus_one_is = refl

-- 10,000 as the code has it
abbrev pub read_ten_thousand : Float
read_ten_thousand = of_bits binary64 4666723172467343360

pub ten_thousand_is : read_ten_thousand ≡ ten_thousand
unfolding of_bits
ten_thousand_is = refl
