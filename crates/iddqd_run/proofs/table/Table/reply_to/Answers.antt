use Rattle.iddqd_run.proofs.table.Table.reply_to.Goals as goal

pub returns-in-Add : goal.returns-in-Add
returns-in-Add g c = rw c.in-Add.is c.add.ensures

pub returns-in-Put : goal.returns-in-Put
returns-in-Put g c = rw c.in-Put.is c.put.ensures

pub returns-in-Get : goal.returns-in-Get
returns-in-Get g c = rw c.in-Get.is c.get.ensures

pub returns-in-Del : goal.returns-in-Del
returns-in-Del g c = rw c.in-Del.is c.delete.ensures

pub returns-in-Cost : goal.returns-in-Cost
returns-in-Cost g c = rw c.in-Cost.is c.cost.ensures

pub returns-in-Set : goal.returns-in-Set
returns-in-Set g c = rw c.in-Set.is c.set.ensures

pub returns-in-Keep : goal.returns-in-Keep
returns-in-Keep g c = rw c.in-Keep.is c.keep.ensures

pub returns-in-Reserve : goal.returns-in-Reserve
returns-in-Reserve g c = rw c.in-Reserve.is c.reserve.ensures

pub returns-in-Shrink : goal.returns-in-Shrink
returns-in-Shrink g c = rw c.in-Shrink.is c.shrink.ensures

pub returns-in-Len : goal.returns-in-Len
returns-in-Len g c = rw c.in-Len.is c.len.ensures
