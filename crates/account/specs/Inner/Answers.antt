-- "Check order where several apply: 11, ..": an answer that is given of a sound account alone.
use Rattle.answer.specs.declared.Answer.{Answer}
use Rattle.answer.specs.declared.Answer.TheVariants.{Done, BadSetting, Unsound}
use Rattle.answer.specs.Numbers.{unless}
use Rattle.account.specs.declared.account.Account.{Account}
use Rattle.account.specs.declared.settings.Settings.{Settings}
use Rattle.account.specs.Settings.{good_settings}
use Rattle.account.specs.Account.{sound_account}

abbrev pub unless_unsound : Account → Answer → Answer
unless_unsound a w = unless (sound_account a) Unsound w

-- then 1: "a setting .. is bad"
abbrev pub settings_answer : Settings → Account → Answer
settings_answer s a = unless_unsound a (unless (good_settings s) BadSetting Done)
