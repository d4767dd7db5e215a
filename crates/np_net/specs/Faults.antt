-- The cause of a line's fault where its predicate is at fault.
use Rattle.np_pred.specs.declared.pred_error.PredFault.{PredFault}
use Rattle.np_pred.specs.declared.pred_error.PredFault.TheVariants as fault
use Rattle.np_net.specs.declared.pred_faults.PredWhy.{PredWhy}
use Rattle.np_net.specs.declared.pred_faults.PredWhy.TheVariants as why

-- the cause of a line's fault, by the fault of its predicate
abbrev pub pred_why : PredFault → PredWhy
pred_why (fault.BadWord at) = why.BadPred
pred_why fault.Unfinished = why.BadPred
pred_why (fault.Extra at) = why.BadPred
pred_why (fault.TooDeep at) = why.TooDeep
pred_why (fault.UnknownArea at) = why.UnknownName
