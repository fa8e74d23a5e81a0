use Rattle.std.proofs.Common.{[]}
use Rattle.wbt_trace_text.specs.Writing.{setting_lines, avail_line, device_line, cgroup_line, context_line, inode_line, task_line, flusher_line, action_line, order_line, halt_lines, lines_of}
use Rattle.wbt_trace_text.proofs.Texts.{join, join_things, join_stricts, join_chunks, join_cyclics, join_expires, join_estimates, join_paces}
use Rattle.wbt_trace_text.proofs.write.text_of.Goals as goal

pub returns : goal.returns
unfolding lines_of
returns c =
    let trace = c.args.trace.now in
    let settings = join [] _ _ [] (setting_lines trace) (record { is = c.new-text.ensures.bytes }) c.in_ok-put_settings.ensures in
    let avails = join_things avail_line 0 _ _ [] _ _ _ c.as_slice.ensures settings c.in_ok-put_things.ensures in
    let devices = join_things device_line 0 _ _ [] _ _ _ c.as_slice-2.ensures avails c.in_ok-put_things-2.ensures in
    let stricts = join_stricts _ _ [] _ _ _ c.as_slice-3.ensures devices c.in_ok-put_stricts.ensures in
    let chunks = join_chunks _ _ [] _ _ _ c.as_slice-4.ensures stricts c.in_ok-put_chunks.ensures in
    let cyclics = join_cyclics _ _ [] _ _ _ c.as_slice-5.ensures chunks c.in_ok-put_cyclics.ensures in
    let cgroups = join_things cgroup_line 1 _ _ [] _ _ _ c.as_slice-6.ensures cyclics c.in_ok-put_things-3.ensures in
    let contexts = join_things context_line 0 _ _ [] _ _ _ c.as_slice-7.ensures cgroups c.in_ok-put_things-4.ensures in
    let expires = join_expires _ _ [] _ _ _ c.as_slice-8.ensures contexts c.in_ok-put_expires.ensures in
    let estimates = join_estimates _ _ [] _ _ _ c.as_slice-9.ensures expires c.in_ok-put_estimates.ensures in
    let inodes = join_things inode_line 0 _ _ [] _ _ _ c.as_slice-10.ensures estimates c.in_ok-put_things-5.ensures in
    let tasks = join_things task_line 0 _ _ [] _ _ _ c.as_slice-11.ensures inodes c.in_ok-put_things-6.ensures in
    let paces = join_paces _ _ [] _ _ _ c.as_slice-12.ensures tasks c.in_ok-put_paces.ensures in
    let flushers = join_things flusher_line 0 _ _ [] _ _ _ c.as_slice-13.ensures paces c.in_ok-put_things-7.ensures in
    let actions = join_things action_line 0 _ _ [] _ _ _ c.as_slice-14.ensures flushers c.in_ok-put_things-8.ensures in
    let orders = join_things order_line 0 _ _ [] _ _ _ c.as_slice-15.ensures actions c.in_ok-put_things-9.ensures in
    (join [] _ _ _ (halt_lines trace.halt) orders c.in_ok-put_halt.ensures).is
