-- One digit more of a size, and one number more of a command's.
use Rattle.std.specs.Prelude.{cond, ℕ, ◌+◌, ◌*◌, ◌-◌, ◌^◌, ltb, set, Option, Some, None}
use Rattle.field.specs.Form.{is_digit}
use Rattle.script.specs.declared.numbers.Number.{Number}
use Rattle.script.specs.declared.numbers.Numbers.{Numbers}

-- where 64 bits hold it
unfoldable pub grown : ℕ → ℕ → Option ℕ
grown size b =
    cond (is_digit b) (cond (ltb (10 * size + (b - 48)) (2 ^ 64)) (Some (10 * size + (b - 48))) None) None

-- the eleventh number and those behind it only make the count eleven
unfoldable pub with_number : Numbers → Option Number → Numbers
with_number n x =
    cond (ltb n.count 10)
    record { count = n.count + 1; all = set n.all n.count x }
    record { count = 11; all = n.all }
