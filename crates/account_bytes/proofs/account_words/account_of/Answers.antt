-- An account is its ledger with its columns.
use mir.Syntax.{w64}
use mir.Val.{SFits}
use mir.Facts.{to_z-of_z}
use Rattle.account_bytes.proofs.Parts.{parts_are}
use borrow.Author.Rules.{rules}
use Rattle.account_bytes.proofs.account_words.account_of.Goals as goal

pub returns : goal.returns
returns c =
    let f : SFits w64 c.read_ledger-h.result.cash = search rules in
    simp (to_z-of_z f) (parts_are c.args.bytes.now _ _ _ c.requires c.read_ledger-h.ensures c.read_columns.ensures)
