mod Forwards
