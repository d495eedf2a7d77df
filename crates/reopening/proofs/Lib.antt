mod Reopening
