-- `frames::digit` meets its contract: the arms are the definition's values, one by one, and what is in none of them stands for 0.
-- Assumes nothing.
use mathlib.Core.Path.{sym}
use Rattle.frames.specs.Frame.{value}
use Rattle.frames.specs.Laws.Frame.{value_none}
use borrow.Author.Rules.{rules}
use Rattle.frames.proofs.digit.Goals as goal

pub returns-in-48 : goal.returns-in-48
unfolding value
returns-in-48 c =
    rw c.in-48.is

pub returns-in-49 : goal.returns-in-49
unfolding value
returns-in-49 c =
    rw c.in-49.is

pub returns-in-50 : goal.returns-in-50
unfolding value
returns-in-50 c =
    rw c.in-50.is

pub returns-in-51 : goal.returns-in-51
unfolding value
returns-in-51 c =
    rw c.in-51.is

pub returns-in-52 : goal.returns-in-52
unfolding value
returns-in-52 c =
    rw c.in-52.is

pub returns-in-53 : goal.returns-in-53
unfolding value
returns-in-53 c =
    rw c.in-53.is

pub returns-in-54 : goal.returns-in-54
unfolding value
returns-in-54 c =
    rw c.in-54.is

pub returns-in-55 : goal.returns-in-55
unfolding value
returns-in-55 c =
    rw c.in-55.is

pub returns-in-56 : goal.returns-in-56
unfolding value
returns-in-56 c =
    rw c.in-56.is

pub returns-in-57 : goal.returns-in-57
unfolding value
returns-in-57 c =
    rw c.in-57.is

pub returns-in-65 : goal.returns-in-65
unfolding value
returns-in-65 c =
    rw c.in-65.is

pub returns-in-66 : goal.returns-in-66
unfolding value
returns-in-66 c =
    rw c.in-66.is

pub returns-in-67 : goal.returns-in-67
unfolding value
returns-in-67 c =
    rw c.in-67.is

pub returns-in-68 : goal.returns-in-68
unfolding value
returns-in-68 c =
    rw c.in-68.is

pub returns-in-69 : goal.returns-in-69
unfolding value
returns-in-69 c =
    rw c.in-69.is

pub returns-in-70 : goal.returns-in-70
unfolding value
returns-in-70 c =
    rw c.in-70.is

pub returns-in_default : goal.returns-in_default
returns-in_default c =
    sym (value_none c.args.c (search rules) c.in_default.in_default-own.rest)
