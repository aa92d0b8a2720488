-- What a query returns and leaves: the answer's number in the low eight bits, with the count of weights or a refusal's place above it, and the lent bytes.
use Rattle.std.specs.Prelude.{ℕ, List}
use Rattle.answer.specs.declared.Answer.{Answer}
use Rattle.answer.specs.Places.{word_of}

pub record QueryTold : Type 0 where
  pub answer : ℕ
  pub out : List ℕ

abbrev pub tell_query : ℕ → List ℕ → QueryTold
tell_query n out = record { answer = n; out = out }

-- a refusal leaves "every lent place as found"
abbrev pub refusing : List ℕ → Answer → QueryTold
refusing out answer = tell_query (word_of answer) out

-- ---- the same where two runs are lent
pub record ToldBoth : Type 0 where
  pub answer : ℕ
  pub figures : List ℕ
  pub weights : List ℕ

abbrev pub tell_both : ℕ → List ℕ → List ℕ → ToldBoth
tell_both n figures weights = record { answer = n; figures = figures; weights = weights }

abbrev pub refusing_both : List ℕ → List ℕ → Answer → ToldBoth
refusing_both figures weights answer = tell_both (word_of answer) figures weights
