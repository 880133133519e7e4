-- What people read of a report.
use Rattle.std.specs.Prelude.{ℕ, List, ◌++◌, codes, slice_index}
use Rattle.std.specs.Fmt.{decimal}
use Rattle.commands.specs.Outcomes.{number}
use Rattle.commands.specs.declared.kind.Kind.{Kind}
use Rattle.commands.specs.declared.kind.Kind.TheVariants as kind
use Rattle.commands.specs.declared.part.Part.{Part}
use Rattle.commands.specs.declared.part.Part.TheVariants.{Problem, Proof}
use Rattle.proofcheck.specs.declared.report.Report.{Report}

-- How often a kind was found.
abbrev pub count_shown : Report → Kind → List ℕ
count_shown report k = decimal (slice_index report.counts (number k))

-- The forms of a part, each with its count.
abbrev pub forms_shown : Part → Report → List ℕ
forms_shown Problem report =
    count_shown report kind.SetLogic ++ (codes " set-logic, " ++ (count_shown report kind.DeclareSort ++ (codes " declare-sort, " ++ (count_shown report kind.DeclareFun ++ (codes " declare-fun, " ++ (count_shown report kind.Assert ++ codes " assert"))))))
forms_shown Proof report =
    count_shown report kind.Assume ++ (codes " assume, " ++ (count_shown report kind.Step ++ (codes " step, " ++ (count_shown report kind.Anchor ++ codes " anchor"))))

-- The accepted commands and their forms, their tokens, and what was skipped and refused.
abbrev pub report_shown : Report → List ℕ
report_shown report =
    decimal report.commands ++ (codes " commands (" ++ (forms_shown report.part report ++ (codes "), " ++ (decimal report.tokens ++ (codes " tokens, " ++ (count_shown report kind.Skipped ++ (codes " skipped, " ++ (count_shown report kind.Refused ++ codes " refused"))))))))
