-- The parts of a sheet, one behind another.
use Rattle.job_sheet_put.proofs.Laws.Rows.{sheet-over, sheet_appended}
use Rattle.job_sheet_put.proofs.sheet.put_sheet.Goals as goal

pub shape_of-sheet : goal.shape_of-sheet
shape_of-sheet c =
    let p = c in
    let b = p in
    let e = b in
    let s = e in
    let a = s in
    (sheet_appended a.args.n a.args.floor a.args.a.now a.args.b.now a.args.m.now a.args.us.now a.args.vs.now a.args.betas.now
    a.requires s.put_size.ensures e.put_edges.ensures b.put_betas.ensures p.put_pairs.ensures).size

pub returns : goal.returns
returns c =
    let p = c in
    let b = p in
    let e = b in
    let s = e in
    let a = s in
    sheet-over a.args.n a.args.floor a.args.a.now a.args.b.now a.args.m.now a.args.us.now a.args.vs.now a.args.betas.now
    a.requires s.put_size.ensures e.put_edges.ensures b.put_betas.ensures p.put_pairs.ensures
